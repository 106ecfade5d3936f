-- LAWS. The messages of a history beside those of one counter q's ledger. A table has, by card, the messages made, each with the item that the ledger sends for it.
-- Of a message the proof knows how many messages of each card its sender had received (`knew`), so a set of messages is here a table of numbers.
-- What is said of a message (`MessageOk`) stays when messages are added (`message_more`).
use Rattle.std.specs.Prelude.{ℕ, suc, ◌≤◌, ◌<◌, ◌≡◌, Bool, true, List, [], ◌∷◌, ◌++◌, length, get_or}
use Rattle.std.proofs.Common.{ap, le_refl, arith, length-append}
use Rattle.std.proofs.Math.ListN.{get_or-append}
use Rattle.std.proofs.Math.Seq.{get_or-append_seam}
use Rattle.protocol.proofs.Cases.{by_place, by_le}
use Rattle.protocol.proofs.Tables.{put, put_same, put_other, put_at, sum, sum_cong}
use Rattle.protocol.specs.Names.{Name, name, has, names_after, latest}
use Rattle.protocol.proofs.NameLaws.{Prefixes}
use Rattle.protocol.specs.Ledger.{Item, nothing}
use Rattle.protocol.specs.History.{Sent, no_sent, increments_of, clear_of}

-- a message, and what the ledger of q sends for it
pub record Told : Type 0 where
  pub sent : Sent
  pub item : Item

abbrev pub no_told : Told
no_told = record { sent = no_sent; item = nothing 0 }

abbrev pub Table : Type 0
Table = ℕ → List Told

-- card s's n-th message, from 0
abbrev pub message_at : Table → ℕ → ℕ → Told
message_at T s n = get_or (T s) n no_told

-- how many of card c's messages its sender had received
abbrev pub knew : Told → ℕ → ℕ
knew t c = latest c t.sent.before

-- how many increments of q card j's first n messages are
abbrev pub made_of : ℕ → Table → ℕ → ℕ → ℕ
made_of q T j n = sum n (λ m. increments_of q (message_at T j m).sent)

-- ---- what is said of messages

-- every name that the message cancels is in P
abbrev pub CancelsIn : (Name → Bool) → Told → Type 0
CancelsIn P t = (j o : ℕ) → has t.item.cancels (name j o) ≡ true → P (name j o) ≡ true

-- every name that its sender had received is in P
abbrev pub KnownIn : ℕ → Table → (Name → Bool) → Told → Type 0
KnownIn q T P t = (j o : ℕ) → 0 < o → o ≤ made_of q T j (knew t j) → P (name j o) ≡ true

-- of each card's messages, the first so-many
abbrev pub Each : Table → (ℕ → ℕ) → (Told → Type 0) → Type 0
Each T W Q = (s n : ℕ) → n < length (T s) → n < W s → Q (message_at T s n)

-- with each message, all that its sender had received
abbrev pub Closed : Table → (ℕ → ℕ) → Type 0
Closed T W = Each T W (λ t. (c : ℕ) → knew t c ≤ W c)

-- P has all that these messages cancel; P has all that the clears among them clear in the plain sense
abbrev pub AllCancelsIn : Table → (ℕ → ℕ) → (Name → Bool) → Type 0
AllCancelsIn T W P = Each T W (CancelsIn P)

abbrev pub AllClearsIn : ℕ → Table → (ℕ → ℕ) → (Name → Bool) → Type 0
AllClearsIn q T W P = Each T W (λ t. clear_of q t.sent ≡ true → KnownIn q T P t)

-- card s's n-th message is t
pub record MessageOk (q : ℕ) (T : Table) (s n : ℕ) (t : Told) : Type 0 where
  pub id_is : t.sent.id ≡ name s (suc n)
  pub before_is : Prefixes t.sent.before (knew t)
  pub knew_within : (c : ℕ) → knew t c ≤ length (T c)
  pub adds_are : t.item.adds ≡ names_after s (made_of q T s n) (increments_of q t.sent)
  -- a clear: what its sender had received is cancelled by it, or by what its sender had received
  pub clear_cancels : clear_of q t.sent ≡ true → (P : Name → Bool) → AllCancelsIn T (knew t) P → CancelsIn P t → KnownIn q T P t
  -- what the message cancels is cleared in the plain sense, by it or by messages that come before it
  pub cancels_cleared : (W : ℕ → ℕ) (P : Name → Bool) → Closed T W → AllClearsIn q T W P
      → ((c : ℕ) → knew t c ≤ W c) → (clear_of q t.sent ≡ true → KnownIn q T P t) → CancelsIn P t

abbrev pub AllOk : ℕ → Table → Type 0
AllOk q T = (s n : ℕ) → n < length (T s) → MessageOk q T s n (message_at T s n)

-- ---- card i makes one more message

abbrev pub more : Table → ℕ → Told → Table
more T i t = put i (T i ++ t ∷ []) T

module _ (T : Table) (i : ℕ) (t : Told) where
  pub more_here : length (more T i t i) ≡ suc (length (T i))
  more_here = rw (put_same i (T i ++ t ∷ []) T, length-append (T i) (t ∷ [])) (omega arith)

  pub longer : (j : ℕ) → length (T j) ≤ length (more T i t j)
  longer j =
      by_place j i
      (λ e. rw e (let q = more_here in omega arith))
      (λ d. rw (put_other i (T i ++ t ∷ []) T j d) (le_refl (length (T j))))

  pub message_old : (j n : ℕ) → n < length (T j) → message_at (more T i t) j n ≡ message_at T j n
  message_old j n l =
      by_place j i
      (λ e. rw (put_at i (T i ++ t ∷ []) T j e, ← e) (get_or-append (T j) (t ∷ []) no_told n l))
      (λ d. rw (put_other i (T i ++ t ∷ []) T j d))

  pub message_new : message_at (more T i t) i (length (T i)) ≡ t
  message_new = rw (put_same i (T i ++ t ∷ []) T) (get_or-append_seam (T i) t [] no_told)

  -- a place is an old one, or the new one
  pub place_cases {ℓ} : {P : Type ℓ} (j n : ℕ) → n < length (more T i t j) → (n < length (T j) → P) → (j ≡ i → n ≡ length (T i) → P) → P
  place_cases j n l a b =
      by_le (suc n) (length (T j)) a
      (λ m. by_place j i
      (λ e. b e (let q = more_here in let q₁ : n < length (more T i t i) = rw e at l in let q₂ : length (T i) < suc n = rw e at m in omega arith))
      (λ d. let q : n < length (T j) = rw (put_other i (T i ++ t ∷ []) T j d) at l in absurd (omega arith)))

  pub made_old : (q j n : ℕ) → n ≤ length (T j) → made_of q (more T i t) j n ≡ made_of q T j n
  made_old q j n l =
      sum_cong n _ _ (λ m k. ap (λ (u : Told). increments_of q u.sent) (message_old j m (omega arith)))

  pub each_old : (W : ℕ → ℕ) (Q : Told → Type 0) → Each (more T i t) W Q → Each T W Q
  each_old W Q h s n l m = rw (message_old s n l) at (h s n (let q = longer s in omega arith) m)

  module _ (q : ℕ) (P : Name → Bool) (u : Told) (within : (c : ℕ) → knew u c ≤ length (T c)) where
    pub known_old : KnownIn q (more T i t) P u → KnownIn q T P u
    known_old h j o l m = h j o l (rw (made_old q j (knew u j) (within j)) m)

    pub known_more : KnownIn q T P u → KnownIn q (more T i t) P u
    known_more h j o l m = h j o l (rw (made_old q j (knew u j) (within j)) at m)

  pub message_more : (q : ℕ) → AllOk q T → (s n : ℕ) (u : Told) → n ≤ length (T s) → MessageOk q T s n u → MessageOk q (more T i t) s n u
  message_more q ok s n u l k = record {
    id_is = k.id_is;
    before_is = k.before_is;
    knew_within = λ c. let a = k.knew_within c in let b = longer c in omega arith;
    adds_are = rw (made_old q s n l) k.adds_are;
    clear_cancels = λ c P all own. known_more q P u k.knew_within (k.clear_cancels c P (each_old (knew u) (CancelsIn P) all) own);
    cancels_cleared = λ W P closed clears knows own.
        k.cancels_cleared W P (each_old W (λ v. (c : ℕ) → knew v c ≤ W c) closed)
        (λ j m a b c. known_old q P (message_at T j m) (ok j m a).knew_within
        (each_old W (λ v. clear_of q v.sent ≡ true → KnownIn q (more T i t) P v) clears j m a b c))
        knows (λ c. known_old q P u k.knew_within (own c));
  }

  pub all_more : (q : ℕ) → AllOk q T → MessageOk q T i (length (T i)) t → AllOk q (more T i t)
  all_more q ok new s n l =
      place_cases s n l
      (λ a. rw (message_old s n a) (message_more q ok s n (message_at T s n) (omega arith) (ok s n a)))
      (λ e d. rw (e, d, message_new) (message_more q ok i (length (T i)) t (le_refl (length (T i))) new))
