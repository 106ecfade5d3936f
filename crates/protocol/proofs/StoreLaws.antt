-- LAWS. Replicas kept in words (`Store`): taking a message, written over a store's accessors, does to the words what `Chassis` does to the
-- replica that the words show, and count, clear and read see that replica.
use Prim.Native.Nat.{ℕ, zero, suc, ◌+◌, ◌-◌, ◌^◌, ◌<◌}
use Rattle.std.specs.Prelude.{◌≡◌}
use Rattle.std.proofs.Math.Path.{refl, ap}
use Rattle.std.proofs.Common.{sym, ◌∙◌, arith}
use Rattle.std.proofs.Math.Bool.{cond}
use mathlib.Core.List.{List, [], ◌∷◌}
use Rattle.protocol.proofs.Cases.{by_place}
use Rattle.protocol.proofs.Tables.{put, put_same, put_other, put_at, put_same_row, put_other_row, sum_cong, bits}
use Rattle.protocol.specs.Entry.{Entry, present, has_entry, cleared}
use Rattle.protocol.specs.Chassis.{Message, increment, clearing, ClearEntry, Replica, cleared_row, taken, count_message, present_entries, clear_message, read_value, read_holders, counter_of}
use Rattle.protocol.specs.Acceptance.{entries_of}
use Rattle.protocol.proofs.BitLaws.{any_cong}
unfoldable pub use Rattle.protocol.specs.Store.{cleared_words, taken_words, shown}
pub use Rattle.protocol.specs.Store.{Store, Shows, Marked}

-- ---- messages within the limits

-- the cards of a clear's entries are below r
abbrev pub CardsBelow : ℕ → List ClearEntry → Type 0
CardsBelow r [] = Unit {0}
CardsBelow r (t ∷ ts) = (t.card < r) × CardsBelow r ts

abbrev pub InLimits : ℕ → ℕ → Message → Type 0
InLimits r k (increment q w p start) = q < k
InLimits r k (clearing q ts) = (q < k) × CardsBelow r ts

-- What ties a store's accessors and setters, for r cards and k rows.
pub record Lawful (r k : ℕ) (S : Store) : Type 0 where
  pub fits_entry : (q j : ℕ) (e : Entry) (ws : S.Words) → S.Fits ws → S.Fits (S.set_entry q j e ws)
  pub fits_C : (j v : ℕ) (ws : S.Words) → S.Fits ws → S.Fits (S.set_C j v ws)
  pub fits_N : (j v : ℕ) (ws : S.Words) → S.Fits ws → S.Fits (S.set_N j v ws)
  pub fits_mark : (q : ℕ) (ws : S.Words) → q < k → S.Fits ws → S.Fits (S.mark q ws)
  -- no setter moves the head
  pub head_entry : (q j : ℕ) (e : Entry) (ws : S.Words) → j < r → S.head (S.set_entry q j e ws) ≡ S.head ws
  pub head_C : (j v : ℕ) (ws : S.Words) → S.head (S.set_C j v ws) ≡ S.head ws
  pub head_N : (j v : ℕ) (ws : S.Words) → S.head (S.set_N j v ws) ≡ S.head ws
  pub head_mark : (q : ℕ) (ws : S.Words) → S.head (S.mark q ws) ≡ S.head ws
  -- what each accessor finds after each setter, within the limits
  pub entry_entry : (q j : ℕ) (e : Entry) (ws : S.Words) → S.Fits ws → q < k → j < r → (q' j' : ℕ) → q' < k → j' < r
      → S.entry (S.set_entry q j e ws) q' j' ≡ put q (put j e (S.entry ws q)) (S.entry ws) q' j'
  pub C_entry : (q j : ℕ) (e : Entry) (ws : S.Words) → j < r → (j' : ℕ) → j' < r → S.C (S.set_entry q j e ws) j' ≡ S.C ws j'
  pub N_entry : (q j : ℕ) (e : Entry) (ws : S.Words) → j < r → (j' : ℕ) → j' < r → S.N (S.set_entry q j e ws) j' ≡ S.N ws j'
  pub entry_C : (j v : ℕ) (ws : S.Words) → j < r → (q' j' : ℕ) → S.entry (S.set_C j v ws) q' j' ≡ S.entry ws q' j'
  pub C_C : (j v : ℕ) (ws : S.Words) → S.Fits ws → j < r → (j' : ℕ) → j' < r → S.C (S.set_C j v ws) j' ≡ put j v (S.C ws) j'
  pub N_C : (j v : ℕ) (ws : S.Words) → j < r → (j' : ℕ) → j' < r → S.N (S.set_C j v ws) j' ≡ S.N ws j'
  pub entry_N : (j v : ℕ) (ws : S.Words) → j < r → (q' j' : ℕ) → S.entry (S.set_N j v ws) q' j' ≡ S.entry ws q' j'
  pub C_N : (j v : ℕ) (ws : S.Words) → j < r → (j' : ℕ) → j' < r → S.C (S.set_N j v ws) j' ≡ S.C ws j'
  pub N_N : (j v : ℕ) (ws : S.Words) → S.Fits ws → j < r → (j' : ℕ) → j' < r → S.N (S.set_N j v ws) j' ≡ put j v (S.N ws) j'
  pub entry_mark : (q : ℕ) (ws : S.Words) (q' j' : ℕ) → S.entry (S.mark q ws) q' j' ≡ S.entry ws q' j'
  pub C_mark : (q : ℕ) (ws : S.Words) (j' : ℕ) → S.C (S.mark q ws) j' ≡ S.C ws j'
  pub N_mark : (q : ℕ) (ws : S.Words) (j' : ℕ) → S.N (S.mark q ws) j' ≡ S.N ws j'
  -- a row's bit is set by its entries, and by `mark` alone
  pub active_mark : (q : ℕ) (ws : S.Words) → S.Fits ws → q < k → (q' : ℕ) → S.active (S.mark q ws) q' ≡ put q (has_entry r (S.entry ws q)) (S.active ws) q'
  pub active_entry : (q j : ℕ) (e : Entry) (ws : S.Words) (q' : ℕ) → S.active (S.set_entry q j e ws) q' ≡ S.active ws q'
  pub active_C : (j v : ℕ) (ws : S.Words) (q' : ℕ) → S.active (S.set_C j v ws) q' ≡ S.active ws q'
  pub active_N : (j v : ℕ) (ws : S.Words) (q' : ℕ) → S.active (S.set_N j v ws) q' ≡ S.active ws q'

-- within the limits, two tables agree when one place of both is changed alike
put_alike {ℓ} : {A : Type ℓ} (n s : ℕ) (v w : A) (f g : ℕ → A) → v ≡ w → ((j : ℕ) → j < n → f j ≡ g j) → (j : ℕ) → j < n → put s v f j ≡ put s w g j
put_alike n s v w f g e h j l = by_place j s (λ c. simp put_at e) (λ d. simp put_other (h j l))

put_alike_row {ℓ} : {A : Type ℓ} (n m q : ℕ) (v w : ℕ → A) (f g : ℕ → ℕ → A) → ((j : ℕ) → j < m → v j ≡ w j) → ((i j : ℕ) → i < n → j < m → f i j ≡ g i j)
    → (i j : ℕ) → i < n → j < m → put q v f i j ≡ put q w g i j
put_alike_row n m q v w f g e h i j l o = by_place i q (λ c. rw c (simp put_same_row (e j o))) (λ d. simp put_other_row (h i j l o))

module _ (r k : ℕ) (S : Store) (law : Lawful r k S) where
  -- one entry set
  entry_set : (q j : ℕ) (e e' : Entry) (ws : S.Words) (b : Replica) → q < k → j < r → e ≡ e' → Shows S r k ws b
      → Shows S r k (S.set_entry q j e ws) (record { entry = put q (put j e' (b.entry q)) b.entry; C = b.C; N = b.N })
  entry_set q j e e' ws b hq hj same_e h = record {
    fits = law.fits_entry q j e ws h.fits;
    entries = λ q' j' a c.
        law.entry_entry q j e ws h.fits hq hj q' j' a c
        ∙ put_alike_row k r q (put j e (S.entry ws q)) (put j e' (b.entry q)) (S.entry ws) b.entry
        (put_alike r j e e' (S.entry ws q) (b.entry q) same_e (λ i l. h.entries q i hq l)) h.entries q' j' a c;
    Cs = λ j' c. law.C_entry q j e ws hj j' c ∙ h.Cs j' c;
    Ns = λ j' c. law.N_entry q j e ws hj j' c ∙ h.Ns j' c;
  }

  C_set : (j v v' : ℕ) (ws : S.Words) (b : Replica) → j < r → v ≡ v' → Shows S r k ws b
      → Shows S r k (S.set_C j v ws) (record { entry = b.entry; C = put j v' b.C; N = b.N })
  C_set j v v' ws b hj e h = record {
    fits = law.fits_C j v ws h.fits;
    entries = λ q' j' a c. law.entry_C j v ws hj q' j' ∙ h.entries q' j' a c;
    Cs = λ j' c. law.C_C j v ws h.fits hj j' c ∙ put_alike r j v v' (S.C ws) b.C e h.Cs j' c;
    Ns = λ j' c. law.N_C j v ws hj j' c ∙ h.Ns j' c;
  }

  N_set : (j v v' : ℕ) (ws : S.Words) (b : Replica) → j < r → v ≡ v' → Shows S r k ws b
      → Shows S r k (S.set_N j v ws) (record { entry = b.entry; C = b.C; N = put j v' b.N })
  N_set j v v' ws b hj e h = record {
    fits = law.fits_N j v ws h.fits;
    entries = λ q' j' a c. law.entry_N j v ws hj q' j' ∙ h.entries q' j' a c;
    Cs = λ j' c. law.C_N j v ws hj j' c ∙ h.Cs j' c;
    Ns = λ j' c. law.N_N j v ws h.fits hj j' c ∙ put_alike r j v v' (S.N ws) b.N e h.Ns j' c;
  }

  marked_shows : (q : ℕ) (ws : S.Words) (b : Replica) → q < k → Shows S r k ws b → Shows S r k (S.mark q ws) b
  marked_shows q ws b hq h = record {
    fits = law.fits_mark q ws hq h.fits;
    entries = λ q' j' a c. law.entry_mark q ws q' j' ∙ h.entries q' j' a c;
    Cs = λ j' c. law.C_mark q ws j' ∙ h.Cs j' c;
    Ns = λ j' c. law.N_mark q ws j' ∙ h.Ns j' c;
  }

  shows_alike : (ws : S.Words) (b b' : Replica) → ((q j : ℕ) → b.entry q j ≡ b'.entry q j) → ((j : ℕ) → b.C j ≡ b'.C j) → ((j : ℕ) → b.N j ≡ b'.N j)
      → Shows S r k ws b → Shows S r k ws b'
  shows_alike ws b b' e c n h = record {
    fits = h.fits;
    entries = λ q j x y. h.entries q j x y ∙ e q j;
    Cs = λ j y. h.Cs j y ∙ c j;
    Ns = λ j y. h.Ns j y ∙ n j;
  }

  -- the entries of a clear
  cleared_shows : (q : ℕ) (ts : List ClearEntry) (ws : S.Words) (b : Replica) → q < k → CardsBelow r ts → Shows S r k ws b
      → Shows S r k (cleared_words S q ts ws) (record { entry = put q (cleared_row b.C ts (b.entry q)) b.entry; C = b.C; N = b.N })
  unfolding cleared_words cleared_row
  cleared_shows q [] ws b hq on h =
      shows_alike ws b _ (λ i j. by_place i q (λ e. rw (e, put_same_row q (b.entry q) b.entry j)) (λ d. rw put_other_row)) (λ j. refl) (λ j. refl) h
  cleared_shows q (t ∷ ts) ws b hq on h =
      shows_alike _ _ _ same_rows (λ j. refl) (λ j. refl)
      (cleared_shows q ts _ _ hq on.1
      (entry_set q t.card _ (cleared t.p t.c (b.C t.card) (b.entry q t.card)) ws b hq on.0
      (rw (h.Cs t.card on.0, h.entries q t.card hq on.0)) h))
    where
      row₁ : ℕ → Entry
      row₁ = put t.card (cleared t.p t.c (b.C t.card) (b.entry q t.card)) (b.entry q)

      same_rows : (i j : ℕ) → put q (cleared_row b.C ts (put q row₁ b.entry q)) (put q row₁ b.entry) i j ≡ put q (cleared_row b.C ts row₁) b.entry i j
      same_rows i j = by_place i q (λ e. rw (e, put_same q row₁ b.entry) (simp put_same_row)) (λ d. simp put_other_row)

  -- no message moves the head
  cleared_head : (q : ℕ) (ts : List ClearEntry) (ws : S.Words) → CardsBelow r ts → S.head (cleared_words S q ts ws) ≡ S.head ws
  unfolding cleared_words
  cleared_head q [] ws on = refl
  cleared_head q (t ∷ ts) ws on = cleared_head q ts _ on.1 ∙ law.head_entry q t.card _ ws on.0

  -- a clear's entries move no C and no N
  pub cleared_C : (q : ℕ) (ts : List ClearEntry) (ws : S.Words) → CardsBelow r ts → (j : ℕ) → j < r → S.C (cleared_words S q ts ws) j ≡ S.C ws j
  unfolding cleared_words
  cleared_C q [] ws on j l = refl
  cleared_C q (t ∷ ts) ws on j l = cleared_C q ts _ on.1 j l ∙ law.C_entry q t.card _ ws on.0 j l

  pub cleared_N : (q : ℕ) (ts : List ClearEntry) (ws : S.Words) → CardsBelow r ts → (j : ℕ) → j < r → S.N (cleared_words S q ts ws) j ≡ S.N ws j
  unfolding cleared_words
  cleared_N q [] ws on j l = refl
  cleared_N q (t ∷ ts) ws on j l = cleared_N q ts _ on.1 j l ∙ law.N_entry q t.card _ ws on.0 j l

  pub taken_head : (q s : ℕ) (m : Message) (ws : S.Words) → s < r → CardsBelow r (entries_of m) → S.head (taken_words S q s m ws) ≡ S.head ws
  unfolding taken_words
  taken_head q s (increment k w p start) ws hs on = law.head_N s _ _ ∙ law.head_C s _ _ ∙ law.head_mark q _ ∙ law.head_entry q s _ ws hs
  taken_head q s (clearing k ts) ws hs on = law.head_N s _ _ ∙ law.head_mark q _ ∙ cleared_head q ts ws on

  -- TAKE, on the words, in the row of the message's counter
  pub taken_shows : (s : ℕ) (m : Message) (ws : S.Words) (b : Replica) → s < r → InLimits r k m → Shows S r k ws b
      → Shows S r k (taken_words S (counter_of m) s m ws) (taken s m b)
  unfolding taken_words taken
  taken_shows s (increment q w p start) ws b hs hq h =
      N_set s (suc (S.N ws s)) (suc (b.N s)) _ _ hs (ap suc (h.Ns s hs))
      (C_set s (S.C ws s + w) (b.C s + w) _ _ hs (ap (λ (x : ℕ). x + w) (h.Cs s hs))
      (marked_shows q _ _ hq (entry_set q s _ _ ws b hq hs (rw (h.Cs s hs, h.entries q s hq hs)) h)))
  taken_shows s (clearing q ts) ws b hs (hq, on) h =
      N_set s (suc (S.N ws s)) (suc (b.N s)) _ _ hs (ap suc (h.Ns s hs)) (marked_shows q _ _ hq (cleared_shows q ts ws b hq on h))

  -- ---- the bits of the rows

  cleared_fits : (q : ℕ) (ts : List ClearEntry) (ws : S.Words) → S.Fits ws → S.Fits (cleared_words S q ts ws)
  unfolding cleared_words
  cleared_fits q [] ws h = h
  cleared_fits q (t ∷ ts) ws h = cleared_fits q ts _ (law.fits_entry q t.card _ ws h)

  cleared_active : (q : ℕ) (ts : List ClearEntry) (ws : S.Words) (q' : ℕ) → S.active (cleared_words S q ts ws) q' ≡ S.active ws q'
  unfolding cleared_words
  cleared_active q [] ws q' = refl
  cleared_active q (t ∷ ts) ws q' = cleared_active q ts _ q' ∙ law.active_entry q t.card _ ws q'

  -- behind `mark`, setting C and N leaves bits and entries: the row's bit says whether it has an entry, whatever it said before
  marked_C : (q s v : ℕ) (ws : S.Words) → s < r → Marked S r ws q → Marked S r (S.set_C s v ws) q
  marked_C q s v ws hs m = law.active_C s v ws q ∙ m ∙ sym (any_cong r _ _ (λ j l. ap present (law.entry_C s v ws hs q j)))

  marked_N : (q s v : ℕ) (ws : S.Words) → s < r → Marked S r ws q → Marked S r (S.set_N s v ws) q
  marked_N q s v ws hs m = law.active_N s v ws q ∙ m ∙ sym (any_cong r _ _ (λ j l. ap present (law.entry_N s v ws hs q j)))

  marked_mark : (q : ℕ) (ws : S.Words) → S.Fits ws → q < k → Marked S r (S.mark q ws) q
  marked_mark q ws h hq =
      law.active_mark q ws h hq q ∙ put_same q _ (S.active ws) ∙ sym (any_cong r _ _ (λ j l. ap present (law.entry_mark q ws q j)))

  pub taken_marked : (q s : ℕ) (m : Message) (ws : S.Words) → s < r → q < k → S.Fits ws → Marked S r (taken_words S q s m ws) q
  unfolding taken_words
  taken_marked q s (increment c w p start) ws hs hq h =
      marked_N q s _ _ hs (marked_C q s _ _ hs (marked_mark q _ (law.fits_entry q s _ ws h) hq))
  taken_marked q s (clearing c ts) ws hs hq h = marked_N q s _ _ hs (marked_mark q _ (cleared_fits q ts ws h) hq)

  -- and no other row's bit moves
  pub taken_active : (q s : ℕ) (m : Message) (ws : S.Words) → q < k → S.Fits ws → (q' : ℕ) → (q' ≡ q → ⊥) → S.active (taken_words S q s m ws) q' ≡ S.active ws q'
  unfolding taken_words
  taken_active q s (increment c w p start) ws hq h q' d =
      law.active_N s _ _ q' ∙ law.active_C s _ _ q' ∙ law.active_mark q _ (law.fits_entry q s _ ws h) hq q' ∙ put_other q _ _ q' d ∙ law.active_entry q s _ ws q'
  taken_active q s (clearing c ts) ws hq h q' d =
      law.active_N s _ _ q' ∙ law.active_mark q _ (cleared_fits q ts ws h) hq q' ∙ put_other q _ _ q' d ∙ cleared_active q ts ws q'

-- COUNT, CLEAR and READ see the replica that the words show
module _ (r k : ℕ) (S : Store) where
  pub count_shown : (i q w : ℕ) (ws : S.Words) (b : Replica) → i < r → q < k → Shows S r k ws b
      → count_message i q w (shown S ws) ≡ count_message i q w b
  unfolding count_message shown
  count_shown i q w ws b hi hq h = rw (h.Cs i hi, h.entries q i hq hi)

  present_shown : (n : ℕ) (f g : ℕ → Entry) → ((j : ℕ) → j < n → f j ≡ g j) → present_entries n f ≡ present_entries n g
  unfolding present_entries
  present_shown zero f g h = refl
  present_shown (suc n) f g h = rw (present_shown n f g (λ j l. h j (omega arith)), h n (omega arith))

  pub clear_shown : (q : ℕ) (ws : S.Words) (b : Replica) → q < k → Shows S r k ws b → clear_message r q (shown S ws) ≡ clear_message r q b
  unfolding clear_message shown
  clear_shown q ws b hq h = ap (clearing q) (present_shown r (S.entry ws q) (b.entry q) (λ j l. h.entries q j hq l))

  pub value_shown : (q : ℕ) (ws : S.Words) (b : Replica) → q < k → Shows S r k ws b → read_value r q (shown S ws) ≡ read_value r q b
  unfolding read_value shown
  value_shown q ws b hq h = sum_cong r _ _ (λ j l. ap (λ (e : Entry). e.p - e.n) (h.entries q j hq l))

  pub holders_shown : (q : ℕ) (ws : S.Words) (b : Replica) → q < k → Shows S r k ws b → read_holders r q (shown S ws) ≡ read_holders r q b
  unfolding read_holders shown bits
  holders_shown q ws b hq h = sum_cong r _ _ (λ j l. ap (λ (e : Entry). cond (present e) (2 ^ j) 0) (h.entries q j hq l))
