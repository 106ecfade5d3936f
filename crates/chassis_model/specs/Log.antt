-- DEFINITIONS. The messages at the front of a log, and the waiting message (SPECIFICATION 6).
use Rattle.std.specs.Prelude.{ℕ, zero, suc, ◌+◌, ◌-◌, List, [], cond, length, take, drop, eqb}
use Rattle.wire.specs.Message.{version_2, front_length}
pub use Rattle.chassis_model.specs.declared.Span.{Span}

-- a log is read in version 2: "It takes a log and a number q; if the log does not start with q messages that read, or q is 0, it gives an empty part"
unfoldable pub waiting_part : ℕ → List ℕ → List ℕ
waiting_part zero log = []
waiting_part (suc zero) log = take (front_length version_2 log) log
waiting_part (suc (suc q)) log = cond (eqb (front_length version_2 log) 0) [] (waiting_part (suc q) (drop (front_length version_2 log) log))

-- how many bytes the first n messages of a log take
unfoldable pub end_of : ℕ → List ℕ → ℕ
end_of zero log = 0
end_of (suc n) log = front_length version_2 log + end_of n (drop (front_length version_2 log) log)

-- ---- the waiting message by its place, for a host that takes numbers and no part of a list

-- n bytes from `start` on; where there are none, 0 and 0
abbrev pub span_at : ℕ → ℕ → Span
span_at start n = cond (eqb n 0) (record { start = 0; length = 0 }) (record { start = start; length = n })

-- message number q stands right behind the q - 1 before it
unfoldable pub waiting_span : ℕ → List ℕ → Span
waiting_span q log = span_at (end_of (q - 1) log) (length (waiting_part q log))
