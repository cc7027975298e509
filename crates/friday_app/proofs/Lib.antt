pub mod WorkIsDone
pub mod CommandRuns
pub mod WordTests
pub mod RecordedStreams
pub mod LeftByRecording
pub mod SecondCall
pub mod ImagesApart
pub mod StoppedCall
