pub mod NetworkLemmas
pub mod SentLemmas
pub mod MailboxLemmas
