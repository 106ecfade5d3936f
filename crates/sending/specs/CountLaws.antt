-- LAWS. What a count makes of the own entry, and its outcome.
use Prim.Native.Nat.{ℕ, ◌+◌, ◌-◌, ◌≤◌, ◌<◌, max}
use Rattle.std.specs.Prelude.{◌≡◌, refl, cond, List, length, eqb}
use Rattle.std.proofs.Common.{◌∙◌}
use native.Mathlib.Omega.{arith}
use borrow.Author.Tests.{lt-ltb, le-ltb, ne_eqb, eq-eqb, ltb-true, ltb-false}
use Rattle.protocol.proofs.Cases.{by_test}
use Rattle.protocol.specs.declared.Entry.{Entry}
use Rattle.protocol.specs.Entry.{present, incremented, count_starts, count_p}
use Rattle.protocol.specs.Chassis.{increment, count_message}
use Rattle.protocol.proofs.StoreLaws.{shown}
use Rattle.std.proofs.lemmas.List.Edits.{sets}
use Rattle.wire.specs.Number.{unsigned_int, unsigned_hyper}
use Rattle.wire.specs.Message.{version_2, increment_kind, increment_length, p_at, start_at, amount_at, header_bytes_of, header_bytes, message_bytes, increment_message, over}
use Rattle.wire.specs.WriteLaws.{amount_stored}
use Rattle.replica_model.specs.Layout.{cards, counters, own_card, C_of, N_of, entry_of, set_C, set_N, set_entry, mark}
use Rattle.replica_model.proofs.LayoutLaws.{lawful}
use Rattle.replica_model.specs.Format.{format_2}
use Rattle.replica_model.specs.Calls.{SendOutcome, sent_with, count_of, words_after}
use Rattle.replica_model.proofs.Senders.{Sending}
use Rattle.layout.specs.Effects.{Receives, increment_taken}
use Rattle.sending.specs.SendLaws.{sends_receives}

-- ---- the own entry e of a card that has counted `counted`, when it counts w more

module _ (w counted : ℕ) (e : Entry) (n≤p : e.n ≤ e.p) (c≤ : e.c ≤ counted) (some : 1 ≤ w) where
  -- present: it goes on
  pub counted_on : 0 < e.p → ◌≡◌ {A = Entry} (record { p = e.p + w; n = e.n; c = counted + w }) (incremented w (count_p w counted e) (count_starts e) counted e)
  unfolding incremented
  counted_on l =
      let p_is : max e.p (e.p + w) ≡ e.p + w = omega arith in
      let n_is : max e.n 0 ≡ e.n = omega arith in
      let c_is : max e.c (counted + w) ≡ counted + w = omega arith in
      rw (lt-ltb 0 e.p l, p_is, n_is, c_is, ne_eqb (e.p + w) e.n (λ h. omega arith))

  -- absent: it starts behind all that the card has counted
  pub counted_anew : e.p ≤ 0 → ◌≡◌ {A = Entry} (record { p = counted + w; n = counted; c = counted + w }) (incremented w (count_p w counted e) (count_starts e) counted e)
  unfolding incremented
  counted_anew l =
      let p_is : max e.p (counted + w) ≡ counted + w = omega arith in
      let n_is : max e.n (counted + w - w) ≡ counted = omega arith in
      let c_is : max e.c (counted + w) ≡ counted + w = omega arith in
      rw (le-ltb 0 e.p l, p_is, n_is, c_is, ne_eqb (counted + w) counted (λ h. omega arith))

-- the number that says whether it starts: it does where p is 0
pub start_flag : (e : Entry) → cond (eqb e.p 0) 1 0 ≡ cond {A = ℕ} (count_starts e) 1 0
start_flag e = by_test (present e) (λ t. rw (t, ne_eqb e.p 0 (λ z. omega (arith, ltb-true 0 e.p t)))) (λ t. rw (t, eq-eqb e.p 0 (omega (arith, ltb-false 0 e.p t))))

-- ---- the outcome, from what the code found in the words b of the own card and made

-- the numbers of an increment, each at its place
pub increment_written : (sender sequence counter p start amount : ℕ) (out first second third last : List ℕ) → increment_length version_2 ≤ length out
    → first ≡ sets out 0 (header_bytes_of version_2 increment_kind sender sequence counter) → second ≡ sets first p_at (unsigned_hyper p)
    → third ≡ sets second start_at (unsigned_int start) → last ≡ sets third amount_at (unsigned_int amount)
    → last ≡ over (message_bytes (increment_message version_2 sender sequence counter p start amount)) out
unfolding header_bytes increment_message
increment_written sender sequence counter p start amount out first second third last room one two three four =
    amount_stored (increment_message version_2 sender sequence counter p start amount) out first second third (λ e. omega arith) room one two three refl last four

-- what an accepted count leaves
abbrev pub counted_outcome : List ℕ → List ℕ → ℕ → ℕ → SendOutcome
counted_outcome b out q w = sent_with format_2 b out (count_of b q w)

module _ (b out : List ℕ) (r q w own : ℕ) (first : r ≡ cards b) (mine : own ≡ own_card b) where
  -- the bytes are those of `count_message`, whichever of two looks at the words a number comes from
  pub count_written : (sender seen counted p start : ℕ) (e e₂ : Entry) (out' : List ℕ)
      → sender ≡ own_card b → seen ≡ N_of r b own → counted ≡ C_of b own → e ≡ entry_of r b q own → e₂ ≡ entry_of r b q own
      → p ≡ count_p w counted e → start ≡ cond (count_starts e₂) 1 0 → out' ≡ over (message_bytes (increment_message version_2 sender (seen + 1) q p start w)) out
      → out' ≡ (counted_outcome b out q w).out
  unfolding count_message shown
  count_written sender seen counted p start e e₂ out' sends seen_is known found found₂ next starts written =
      written ∙ rw (starts, next, sends, seen_is, known, found, found₂, mine, first)

  -- N is found before the entry is stored, which leaves it
  pub count_applied : (messages counted : ℕ) (e made : Entry) (b₁ b₂ b₃ : List ℕ) → Sending b q w
      → messages ≡ N_of r b own → counted ≡ C_of b own → e ≡ entry_of r b q own → made ≡ incremented w (count_p w counted e) (count_starts e) counted e
      → b₁ ≡ mark r q (set_entry r q own made b) → b₂ ≡ set_C own (counted + w) b₁ → b₃ ≡ set_N r own (messages + 1) b₂ → b₃ ≡ (counted_outcome b out q w).words
  unfolding count_message shown
  count_applied messages counted e made b₁ b₂ b₃ h seen known found is one two three =
      let on : Receives b r q own = rw mine (sends_receives b r q w first h) in
      let M = entry_of r b q own in
      let p = count_p w (C_of b own) M in
      let law = lawful r (counters b) in
      let new = incremented w p (count_starts M) (C_of b own) M in
      let N_stays : N_of r (mark r q (set_entry r q own new b)) own ≡ N_of r b own = law.N_mark q (set_entry r q own new b) own ∙ law.N_entry q own new b on.card own on.card in
      let done : b₃ ≡ words_after own (increment q w p (count_starts M)) b = three ∙ rw (two, one, is, seen, known, found) (rw N_stays at (increment_taken b r q own on w p (count_starts M))) in
      done ∙ rw (mine, first)

  -- the two, and the number of the message
  pub count_outcome : (messages : ℕ) (b' out' : List ℕ) → messages ≡ N_of r b own → b' ≡ (counted_outcome b out q w).words → out' ≡ (counted_outcome b out q w).out
      → ◌≡◌ {A = SendOutcome} (record { answer = record { number = 0; sequence = messages + 1; length = increment_length version_2 }; words = b'; out = out' }) (counted_outcome b out q w)
  unfolding count_message
  count_outcome messages b' out' seen applied written = rw (applied, written, seen, mine, first)
