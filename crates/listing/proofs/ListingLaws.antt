-- LAWS. The fields of a line, the sizes of a right input, the words of a run that begins with zeros, and which bytes decide a listing.
use Rattle.std.specs.Prelude.{ℕ, zero, suc, ◌+◌, ◌-◌, ◌*◌, ◌/◌, ◌%◌, ◌≤◌, ◌<◌, ◌≡◌, refl, List, ◌∷◌, ◌++◌, Bool, true, false, ◌&&◌, leb, eqb, length, take, drop, replicate}
use Rattle.std.proofs.Common.{sym, ap, ◌∙◌, add-one, append_assoc, mul-le-mul, not-suc-le-zero, le_of_suc-le-suc, arith, leb-true, length-append, length-drop, drop-drop, take_all, length-take-le, take_at, drop_at}
use Rattle.std.proofs.Math.Nat.{mul-le-mul_right, suc-mul}
use Rattle.std.proofs.Math.Seq.{take-length}
use Rattle.protocol.proofs.Cases.{by_le, and_left, and_right, not_yes}
use Rattle.replica_model.specs.declared.Reading.{Reading}
use Rattle.replica_model.specs.Layout.{replica_length}
use Rattle.chassis_model.specs.ListParts.{part}
use Rattle.chassis_model.specs.Run.{answer_length, step_length, RunOutcome, run_bytes_on}
use Rattle.text.specs.Decimal.{decimal}
use Rattle.listing.specs.Listing.{comma, crlf, refused_11, quiet, line, most_listed_cards, most_listed_counters, most_listed_steps, log_bytes, sizes_length, given_cards, given_counters, given_steps, input_bytes, input_right, run_words, run_listing, listing_of}
use Rattle.listing.specs.Sizes.{Listable, most_words}

-- a line as four fields that a comma ends, and one that the line end ends
pub line_fields : (card counter : ℕ) (a : Reading)
    → line card counter a
    ≡ (decimal card ++ comma) ++ (decimal counter ++ comma) ++ (decimal a.value ++ comma) ++ (decimal a.holders ++ comma) ++ (decimal (quiet a) ++ crlf)
unfolding line
line_fields card counter a = simp append_assoc

-- ---- the input

-- the steps are all that stands behind r and k
pub rest_of : (n : ℕ) (input : List ℕ) → take (length input - n) (drop n input) ≡ drop n input
rest_of n input = rw (← length-drop n input) (take-length (drop n input))

pub record RightInput (input : List ℕ) : Type 0 where
  pub head : sizes_length ≤ length input
  pub listable : Listable (given_cards input) (given_counters input) (given_steps input)

pub right_input : (input : List ℕ) → input_right input ≡ true → RightInput input
unfolding input_right
right_input input h =
    let r = given_cards input in
    let k = given_counters input in
    let steps = length (given_steps input) in
    let most_steps = step_length * most_listed_steps in
    let t₁ : Bool = leb sizes_length (length input) in
    let t₂ : Bool = t₁ && leb 1 r in
    let t₃ : Bool = t₂ && leb r most_listed_cards in
    let t₄ : Bool = t₃ && leb 1 k in
    let t₅ : Bool = t₄ && leb k most_listed_counters in
    let t₆ : Bool = t₅ && eqb (steps % step_length) 0 in
    let h₆ = and_left t₆ (leb steps most_steps) h in
    let h₅ = and_left t₅ (eqb (steps % step_length) 0) h₆ in
    let h₄ = and_left t₄ (leb k most_listed_counters) h₅ in
    let h₃ = and_left t₃ (leb 1 k) h₄ in
    let h₂ = and_left t₂ (leb r most_listed_cards) h₃ in
    record {
      head = leb-true sizes_length (length input) (and_left t₁ (leb 1 r) h₂);
      listable = record {
        cards = leb-true r most_listed_cards (and_right t₂ (leb r most_listed_cards) h₃);
        counters = leb-true k most_listed_counters (and_right t₄ (leb k most_listed_counters) h₅);
        few = leb-true steps most_steps (and_right t₆ (leb steps most_steps) h);
      };
    }

-- ---- the run

-- the words of every listable run fit into those of the largest
pub words_fit : (r k : ℕ) → r ≤ most_listed_cards → k ≤ most_listed_counters → r * replica_length r k ≤ most_words
words_fit r k few_cards few_counters =
    let cells : r * k ≤ most_listed_cards * most_listed_counters = mul-le-mul few_cards few_counters in
    let size : replica_length r k ≤ replica_length most_listed_cards most_listed_counters = omega arith in
    mul-le-mul few_cards size

-- the front of zeros is zeros
pub take_replicate : {A : Type 0} (n m : ℕ) (a : A) → n ≤ m → take n (replicate m a) ≡ replicate n a
take_replicate zero m a h = refl
take_replicate (suc n) zero a h = absurd (not-suc-le-zero h)
take_replicate {A} (suc n) (suc m) a h = ap (λ (l : List A). a ∷ l) (take_replicate n m a (le_of_suc-le-suc h))

-- a run of words, logs and answers that hold zeros leaves the words of `run_words`
pub run_words_are : (r k : ℕ) (steps words logs answers words' logs' answers' : List ℕ) (number : ℕ)
    → words ≡ replicate {A = ℕ} (r * replica_length r k) 0 → logs ≡ replicate {A = ℕ} (r * log_bytes) 0 → answers ≡ replicate {A = ℕ} (answer_length * (length steps / step_length)) 0
    → ◌≡◌ {A = RunOutcome} (record { number = number; words = words'; logs = logs'; answers = answers' }) (run_bytes_on r k log_bytes steps words logs answers)
    → words' ≡ run_words r k steps
unfolding run_words
run_words_are r k steps words logs answers words' logs' answers' number zero_words zero_logs zero_answers outcome =
    ap (λ (o : RunOutcome). o.words) outcome ∙ rw (zero_words, zero_logs, zero_answers)

-- ---- the replicas

-- the part that is next, where the cards before have theirs behind them
pub next_part : (size card : ℕ) (words b rest : List ℕ) → drop (card * size) words ≡ b ++ rest → length b ≡ size
    → (b ≡ part size words card) × (rest ≡ drop ((card + 1) * size) words)
unfolding part
next_part size card words b rest parts long =
    let next : card * size + size ≡ (card + 1) * size = omega (arith, suc-mul card size, add-one card) in (
      rw parts (sym (take_at b rest size long)),
      rw (← next, ← drop-drop size (card * size) words, parts) (sym (drop_at b rest size long)),
    )

-- a card whose part is there is one of the cards
pub part_inside : (size card r : ℕ) (words b rest : List ℕ) → drop (card * size) words ≡ b ++ rest → length b ≡ size → 0 < size → r * size ≡ length words → card < r
part_inside size card r words b rest parts long some all =
    by_le r card
    (λ past. absurd (omega (arith, mul-le-mul_right size past, length-drop (card * size) words, ap length parts, length-append b rest)))
    (λ inside. inside)

-- a card is the last where what is left is no part
pub parts_end : (size card r : ℕ) (words : List ℕ) → card ≤ r → length (drop (card * size) words) < size → r * size ≡ length words → card ≡ r
parts_end size card r words few short all =
    by_le r card
    (λ past. omega arith)
    (λ inside. absurd (omega (arith, mul-le-mul_right size inside, suc-mul card size, length-drop (card * size) words)))

-- ---- the listing

pub listing_refused : (input : List ℕ) → input_right input ≡ false → listing_of input ≡ refused_11
unfolding listing_of
listing_refused input wrong = rw wrong

pub listing_right : (input : List ℕ) → input_right input ≡ true
    → listing_of input ≡ run_listing (given_cards input) (given_counters input) (given_steps input)
unfolding listing_of
listing_right input right = rw right

listing_too_long : (input : List ℕ) → input_bytes ≤ length input → listing_of input ≡ refused_11
listing_too_long input long =
    listing_refused input (not_yes (input_right input) (λ right. omega (arith, length-drop sizes_length input, (right_input input right).listable.few)))

pub first_bytes_decide : (input : List ℕ) → listing_of (take input_bytes input) ≡ listing_of input
first_bytes_decide input =
    by_le input_bytes (length input)
    (λ long. listing_too_long (take input_bytes input) (omega (arith, length-take-le input_bytes input long)) ∙ sym (listing_too_long input long))
    (λ short. ap listing_of (take_all input_bytes input (omega arith)))
