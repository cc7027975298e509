-- What group_record promises.
pub mod Run
pub mod Logs
pub mod Images
pub mod Files
pub mod Answer
pub mod Live
pub mod Idle
pub mod Laws
pub mod Standing
pub mod RunLaws
pub mod inside
