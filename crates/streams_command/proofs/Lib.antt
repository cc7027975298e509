mod CountedStreams
mod SentInGroup
mod ToldByEvents
mod StreamPositions
mod NoClockTwice
mod GroupWalk
mod StreamsText
mod NoFileMade
