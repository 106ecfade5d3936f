-- CLAIMS
pub mod Claims
pub mod Examples
-- LAWS. Logs and their messages; messages and logs in another version.
pub mod LogLaws
pub mod ConversionLaws
