pub mod RingTask
