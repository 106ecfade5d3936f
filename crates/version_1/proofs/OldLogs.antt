-- LAWS. A card's log in a version as the bytes of the theory's messages, all by one: which messages are in it, what it converts to, and one more at its end.
use Rattle.std.specs.Prelude.{ℕ, zero, suc, ◌+◌, ◌≤◌, ◌<◌, ◌≡◌, refl, true, length, get_or}
use Rattle.std.proofs.Common.{sym, ap₂, ◌∙◌, le-leb}
use Rattle.std.proofs.Math.Path.{ap}
use mathlib.Core.List.{List, [], ◌∷◌, ◌++◌, map, map-append, append-nil}
use native.Mathlib.Omega.{arith}
use Rattle.protocol.specs.Chassis as protocol
use Rattle.protocol.specs.Chassis.{no_message}
use Rattle.wire.specs.declared.Message.{Message}
use Rattle.wire.specs.Message as form
use Rattle.protocol.specs.Limits.{most_cards}
use Rattle.wire.specs.Message.{version_1, version_2, is_version, in_range, message_bytes, log_bytes, messages_in, is_log}
use Rattle.conversion.specs.Conversion.{in_version, converted, all_by_one}
use Rattle.conversion.specs.ClaimTerms.{AllOf}
use Rattle.conversion.proofs.LogLaws.{written_is_log}
use Rattle.conversion.proofs.ConversionLaws.{in_version_fits, in_version_back}
use Rattle.replica_model.specs.Format.{on_wire}
use Rattle.chassis_model.proofs.LogLaws.{Readable, AllReadable, log_bytes_append}
use Rattle.chassis_model.proofs.Numbered.{wire_log, wire_log_append, wire_log_at, length_numbered}
use Rattle.version_1.proofs.Singles.{Single}
use Rattle.version_1.proofs.OldMessages.{amount_few}

-- card j's messages ms in a version
abbrev pub log_in : (version j : ℕ) → List protocol.Message → List Message
log_in version j ms = map (in_version version) (wire_log j ms)

-- ---- a message of version 2 that can be read and whose amount is one at the most

abbrev Fine : Message → Type 0
Fine x = Readable x × (x.amount ≤ 1)

-- in version 2 it is itself
today_is : (x : Message) → Fine x → in_version version_2 x ≡ x
unfolding in_version
today_is x (good, few) = ap (λ (v : ℕ). in_version v x) (sym good.version) ∙ in_version_back x version_1 good.fits few

fine_in : (version : ℕ) (x : Message) → is_version version ≡ true → Fine x → ((in_version version x).version ≡ version) × (in_range (in_version version x) ≡ true) × (length (in_version version x).entries ≡ most_cards)
unfolding in_version
fine_in version x right (good, few) = (refl, in_version_fits version x right good.fits, good.held)

-- ---- a list of these

abbrev AllFine : List Message → Type 0
AllFine xs = (n : ℕ) → n < length xs → Fine (get_or xs n form.no_message)

later : (x : Message) (xs : List Message) → AllFine (x ∷ xs) → AllFine xs
later x xs fine n l = fine (suc n) (omega arith)

all_in : (version : ℕ) → is_version version ≡ true → (xs : List Message) → AllFine xs → AllOf version (map (in_version version) xs)
all_in version right [] fine = tt
all_in version right (x ∷ xs) fine =
    let (named, fits, held) = fine_in version x right (fine 0 (omega arith)) in (named, fits, held, all_in version right xs (later x xs fine))

all_today : (xs : List Message) → AllFine xs → map (in_version version_2) xs ≡ xs
all_today [] fine = refl
all_today (x ∷ xs) fine = ap₂ (λ (y : Message) (ys : List Message). y ∷ ys) (today_is x (fine 0 (omega arith))) (all_today xs (later x xs fine))

all_small : (xs : List Message) → AllFine xs → all_by_one xs ≡ true
unfolding all_by_one
all_small [] fine = refl
all_small (x ∷ xs) fine = rw (le-leb x.amount 1 (fine 0 (omega arith)).1, all_small xs (later x xs fine))

-- from one version to another
all_again : (from to : ℕ) (xs : List Message) → map (in_version to) (map (in_version from) xs) ≡ map (in_version to) xs
unfolding in_version
all_again from to [] = refl
all_again from to (x ∷ xs) = ap (λ (ys : List Message). in_version to x ∷ ys) (all_again from to xs)

-- the message at a place, in another version
getD_in_version : (to : ℕ) (xs : List Message) (n : ℕ) → n < length xs → get_or (map (in_version to) xs) n form.no_message ≡ in_version to (get_or xs n form.no_message)
getD_in_version to [] n l = absurd (omega arith)
getD_in_version to (x ∷ xs) zero l = refl
getD_in_version to (x ∷ xs) (suc n) l = getD_in_version to xs n (omega arith)

module _ (version : ℕ) (right : is_version version ≡ true) (xs : List Message) (fine : AllFine xs) where
  in_log : (is_log version (log_bytes (map (in_version version) xs)) ≡ true) × (messages_in version (log_bytes (map (in_version version) xs)) ≡ map (in_version version) xs)
  in_log = written_is_log version (map (in_version version) xs) (all_in version right xs fine)

  in_log_converts : (to : ℕ) → converted version to (log_bytes (map (in_version version) xs)) ≡ log_bytes (map (in_version to) xs)
  unfolding converted
  in_log_converts to = ap (λ (ys : List Message). log_bytes (map (in_version to) ys)) in_log.1 ∙ ap log_bytes (all_again version to xs)

-- ---- one message of card j, number n

module _ (version j n : ℕ) (m : protocol.Message) where
  abbrev pub bytes_in : List ℕ
  bytes_in = message_bytes (in_version version (on_wire j n m))

module _ (j n : ℕ) (m : protocol.Message) (one : Single m) (good : Readable (on_wire j n m)) where
  fine_one : Fine (on_wire j n m)
  fine_one = (good, amount_few j n m one)

  pub today_bytes : bytes_in version_2 j n m ≡ message_bytes (on_wire j n m)
  today_bytes = ap message_bytes (today_is (on_wire j n m) fine_one)

  -- converted alone
  pub one_converts : (version to : ℕ) → is_version version ≡ true → converted version to (bytes_in version j n m) ≡ bytes_in to j n m
  unfolding log_bytes
  one_converts version to right =
      let x = on_wire j n m in
      ap (converted version to) (sym (append-nil (bytes_in version j n m)))
      ∙ in_log_converts version right (x ∷ []) (λ k l. rw (places_one k l) fine_one) to
      ∙ append-nil (bytes_in to j n m)
    where
      places_one : (k : ℕ) → k < 1 → k ≡ 0
      places_one k l = omega arith

-- ---- card j's log

pub log_in_append : (version j : ℕ) (ms : List protocol.Message) (m : protocol.Message)
    → log_bytes (log_in version j (ms ++ m ∷ [])) ≡ log_bytes (log_in version j ms) ++ bytes_in version j (length ms + 1) m
log_in_append version j ms m =
    rw (wire_log_append j ms m, map-append) (log_bytes_append (log_in version j ms) (in_version version (on_wire j (length ms + 1) m)))

module _ (j : ℕ) (ms : List protocol.Message) (all : AllReadable (wire_log j ms)) (ones : (n : ℕ) → n < length ms → Single (get_or ms n no_message)) where
  fine : AllFine (wire_log j ms)
  fine n l =
      let l₁ : n < length ms = rw (length_numbered j 0 ms) at l in
      (all n l, rw (wire_log_at j ms n l₁) (amount_few j (n + 1) (get_or ms n no_message) (ones n l₁)))

  pub today_log : log_in version_2 j ms ≡ wire_log j ms
  today_log = all_today (wire_log j ms) fine

  module _ (version : ℕ) (right : is_version version ≡ true) where
    pub is_log_in : is_log version (log_bytes (log_in version j ms)) ≡ true
    is_log_in = (in_log version right (wire_log j ms) fine).0

    -- it converts to the log in another version
    pub log_converts : (to : ℕ) → converted version to (log_bytes (log_in version j ms)) ≡ log_bytes (log_in to j ms)
    log_converts = in_log_converts version right (wire_log j ms) fine

    -- the message behind the first n
    pub behind_in : (n : ℕ) → n < length ms
        → message_bytes (get_or (messages_in version (log_bytes (log_in version j ms))) n form.no_message) ≡ bytes_in version j (n + 1) (get_or ms n no_message)
    behind_in n below =
        ap (λ (xs : List Message). message_bytes (get_or xs n form.no_message)) (in_log version right (wire_log j ms) fine).1
        ∙ ap message_bytes (getD_in_version version (wire_log j ms) n (rw (length_numbered j 0 ms) below))
        ∙ rw (wire_log_at j ms n below)

  pub messages_today : messages_in version_2 (log_bytes (wire_log j ms)) ≡ wire_log j ms
  messages_today = rw today_log at (in_log version_2 refl (wire_log j ms) fine).1

  pub log_by_one : all_by_one (messages_in version_2 (log_bytes (wire_log j ms))) ≡ true
  log_by_one = rw messages_today (all_small (wire_log j ms) fine)
