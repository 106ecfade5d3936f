-- What the converter's proofs cite.

-- LAWS. The first message of a log and the rest; a log measured; a log written in another version; the two calls.
pub mod FirstLaws
pub mod MeasureLaws
pub mod PutLaws
pub mod CallLaws
