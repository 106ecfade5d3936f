-- Cards of version 1. Read `Rules`, `Run` and `Claims`.

-- DEFINITIONS
pub mod Rules
pub mod Run
pub mod History
