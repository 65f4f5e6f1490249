pub mod FetchedFrame
