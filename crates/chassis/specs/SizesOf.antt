-- LAWS. The sizes of a chassis of so many cards and counters, with logs of so many bytes.
use Rattle.std.specs.Prelude.{ℕ}
use Rattle.replica_model.specs.Layout.{replica_length}
use Rattle.chassis.specs.declared.Sizes.{Sizes}

abbrev pub sizes_of : ℕ → ℕ → ℕ → Sizes
sizes_of cards counters log_bytes = record { cards = cards; counters = counters; log_bytes = log_bytes; replica_words = replica_length cards counters }
