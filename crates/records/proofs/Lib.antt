pub mod OwnBytes
pub mod Reading
