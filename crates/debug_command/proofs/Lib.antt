pub mod OutcomeIsWork
pub mod ShellAnswers
pub mod SameTalkers
pub mod SameSessions
