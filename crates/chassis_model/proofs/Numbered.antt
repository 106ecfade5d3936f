-- LAWS. A card's messages as its log has them: on the wire, numbered from 1 on. What a message on the wire says is the message.
use Rattle.std.specs.Prelude.{ℕ, zero, suc, ◌+◌, ◌-◌, ◌<◌, ◌≡◌, refl, Bool, true, false, cond, List, [], ◌∷◌, ◌++◌, length, get_or, replicate, eqb}
use Rattle.std.proofs.Common.{ap, ◌∙◌, arith}
use Rattle.std.proofs.Math.Seq.{take-append_seam}
use Rattle.protocol.specs.Limits.{most_cards}
use Rattle.protocol.specs.Chassis as protocol
use Rattle.protocol.specs.Chassis.{increment, clearing, no_message, counter_of}
use Rattle.protocol.proofs.StoreLaws.{CardsBelow, InLimits}
use Rattle.protocol.specs.Acceptance.{entries_of}
use Rattle.wire.specs.declared.Message as wire
use Rattle.wire.specs.Message as form
use Rattle.wire.specs.Message.{version_2, no_entry, increment_message}
use Rattle.replica_model.specs.Format.{on_wire, content}

-- card j's messages ms, of which the first has number n + 1
unfoldable pub numbered : ℕ → ℕ → List protocol.Message → List wire.Message
numbered j n [] = []
numbered j n (m ∷ ms) = on_wire j (n + 1) m ∷ numbered j (suc n) ms

-- all messages of card j
abbrev pub wire_log : ℕ → List protocol.Message → List wire.Message
wire_log j ms = numbered j 0 ms

pub length_numbered : (j n : ℕ) (ms : List protocol.Message) → length (numbered j n ms) ≡ length ms
unfolding numbered
length_numbered j n [] = refl
length_numbered j n (m ∷ ms) = ap suc (length_numbered j (suc n) ms)

numbered_append : (j n : ℕ) (ms : List protocol.Message) (m : protocol.Message)
    → numbered j n (ms ++ m ∷ []) ≡ numbered j n ms ++ on_wire j (n + length ms + 1) m ∷ []
unfolding numbered
numbered_append j n [] m = let e : n + 0 + 1 ≡ n + 1 = omega arith in rw e
numbered_append j n (x ∷ ms) m =
    let e : suc n + length ms ≡ n + suc (length ms) = omega arith in
    ap {B = List wire.Message} (λ xs. on_wire j (n + 1) x ∷ xs) (numbered_append j (suc n) ms m ∙ rw e)

numbered_at : (j n : ℕ) (ms : List protocol.Message) (x : ℕ) → x < length ms
    → get_or (numbered j n ms) x form.no_message ≡ on_wire j (n + x + 1) (get_or ms x no_message)
unfolding numbered
numbered_at j n [] x l = absurd (omega arith)
numbered_at j n (m ∷ ms) zero l = let e : n + 0 + 1 ≡ n + 1 = omega arith in rw e
numbered_at j n (m ∷ ms) (suc x) l =
    let e : suc n + x ≡ n + suc x = omega arith in
    numbered_at j (suc n) ms x (omega arith) ∙ rw e

-- one more message
pub wire_log_append : (j : ℕ) (ms : List protocol.Message) (m : protocol.Message)
    → wire_log j (ms ++ m ∷ []) ≡ wire_log j ms ++ on_wire j (length ms + 1) m ∷ []
wire_log_append j ms m = let e : 0 + length ms ≡ length ms = omega arith in numbered_append j 0 ms m ∙ rw e

-- the message behind the first n
pub wire_log_at : (j : ℕ) (ms : List protocol.Message) (n : ℕ) → n < length ms
    → get_or (wire_log j ms) n form.no_message ≡ on_wire j (n + 1) (get_or ms n no_message)
wire_log_at j ms n l = let e : 0 + n ≡ n = omega arith in numbered_at j 0 ms n l ∙ rw e

-- ---- what a chassis of r cards and k counters sends

-- a counter below k, cards below r
abbrev pub Sendable : ℕ → ℕ → protocol.Message → Type 0
Sendable r k (increment q w p start) = q < k
Sendable r k (clearing q ts) = (q < k) × CardsBelow r ts

pub sendable_limits : (r k : ℕ) (m : protocol.Message) → Sendable r k m → InLimits r k m
sendable_limits r k (increment q w p start) s = s
sendable_limits r k (clearing q ts) s = s

pub sendable_entries : (r k : ℕ) (m : protocol.Message) → Sendable r k m → CardsBelow r (entries_of m)
sendable_entries r k (increment q w p start) sends = tt
sendable_entries r k (clearing q ts) sends = sends.1

pub sendable_counter : (r k : ℕ) (m : protocol.Message) → Sendable r k m → counter_of m < k
sendable_counter r k (increment q w p start) s = s
sendable_counter r k (clearing q ts) s = s.0

-- ---- a message on the wire

pub start_flag : (start : Bool) → eqb (cond start 1 0) 1 ≡ start
start_flag true = refl
start_flag false = refl

pub content_on_wire : (sender sequence : ℕ) (m : protocol.Message) → content (on_wire sender sequence m) ≡ m
unfolding content increment_message form.clear_message
content_on_wire sender sequence (increment q w p start) = rw (start_flag start)
content_on_wire sender sequence (clearing q ts) = ap (clearing q) (take-append_seam ts (replicate (most_cards - length ts) no_entry))

-- what stands in a message on the wire
pub on_wire_version : (sender sequence : ℕ) (m : protocol.Message) → (on_wire sender sequence m).version ≡ version_2
unfolding increment_message form.clear_message
on_wire_version sender sequence (increment q w p start) = refl
on_wire_version sender sequence (clearing q ts) = refl

pub on_wire_sender : (sender sequence : ℕ) (m : protocol.Message) → (on_wire sender sequence m).sender ≡ sender
unfolding increment_message form.clear_message
on_wire_sender sender sequence (increment q w p start) = refl
on_wire_sender sender sequence (clearing q ts) = refl

pub on_wire_sequence : (sender sequence : ℕ) (m : protocol.Message) → (on_wire sender sequence m).sequence ≡ sequence
unfolding increment_message form.clear_message
on_wire_sequence sender sequence (increment q w p start) = refl
on_wire_sequence sender sequence (clearing q ts) = refl

pub on_wire_counter : (sender sequence : ℕ) (m : protocol.Message) → (on_wire sender sequence m).counter ≡ counter_of m
unfolding increment_message form.clear_message
on_wire_counter sender sequence (increment q w p start) = refl
on_wire_counter sender sequence (clearing q ts) = refl
