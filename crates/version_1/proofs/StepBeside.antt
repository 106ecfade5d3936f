-- LAWS. A step of old and new cards on a chassis beside the theory's: it is refused and leaves the chassis, or it is today's call on the cards that the chassis is, and leaves
-- a chassis beside the theory's.
use Rattle.std.specs.Prelude.{ℕ, ◌<◌, ◌≡◌, ◌≢◌, Bool, ltb}
use Rattle.std.proofs.Common.{arith}
use borrow.Author.Tests.{ltb-true}
use Rattle.protocol.specs.Limits.{bad_card}
use Rattle.protocol.proofs.Cases.{by_test}
use Rattle.chassis_model.specs.declared.Making.{Making}
use Rattle.chassis_model.specs.declared.Making.TheVariants.{Count, Clear}
use Rattle.chassis_model.specs.Driver.{Call, make, called, GenuineCall}
use Rattle.chassis_model.proofs.Sends.{Going, next_message}
use Rattle.version_1.specs.Run.{Step, count, clear, deliver, Chassis, Stepped, declined, version_of, take_on, step_on}
use Rattle.version_1.specs.History.{roomy, call_of, cards_of}
use Rattle.version_1.proofs.Beside.{Beside}
use Rattle.version_1.proofs.MadeBeside.{ByOne, count_by_one, clear_by_one, after_sent, sent_beside, count_cases, clear_cases}
use Rattle.version_1.proofs.DeliveredBeside.{after_taken, taken, taken_beside, delivery_cases}
use Rattle.version_1.proofs.CardsBeside.{make_called, take_called, take_genuine}

-- the call, on the cards that st is: it is genuine and leaves those that `next` is
pub record IsCall (is_old : ℕ → Bool) (r k : ℕ) (c : Call) (st next : Chassis) : Type 0 where
  pub beside : Beside is_old r k next
  pub genuine : GenuineCall c (cards_of is_old st)
  pub leaves : called c (cards_of is_old st) ≡ cards_of is_old next

module _ {is_old : ℕ → Bool} {r k : ℕ} {st : Chassis} (now : Beside is_old r k st) where
  made_call : (i : ℕ) (hi : i < r) (mk : Making) → ByOne mk → (q : ℕ) → Going r k i q (st.words i) mk
      → IsCall is_old r k (make mk i q roomy) st (after_sent now i hi (next_message r now.chassis mk i q))
  made_call i hi mk one q may =
      record { beside = sent_beside now i hi mk one q may; genuine = tt; leaves = make_called now i hi mk one q may roomy (omega arith) }

  -- a step is refused, or is its call
  pub step_cases : (L : ℕ) (s : Step) (P : Stepped → Type 0) → ((n : ℕ) → n ≢ 0 → P (declined st n))
      → ((next : Chassis) → IsCall is_old r k (call_of is_old r s st) st next → P (record { number = 0; chassis = next })) → P (step_on is_old r L s st)
  unfolding step_on
  step_cases L (count i q) P refuses accepts =
      by_test (ltb i r)
      (λ t. let hi = ltb-true i r t in rw t (count_cases now i hi L q P refuses (λ may. accepts _ (made_call i hi (Count 1) count_by_one q may))))
      (λ t. rw t (refuses bad_card (λ e. omega arith)))
  step_cases L (clear i q) P refuses accepts =
      by_test (ltb i r)
      (λ t. let hi = ltb-true i r t in rw t (clear_cases now i hi L q P refuses (λ may. accepts _ (made_call i hi Clear clear_by_one q may))))
      (λ t. rw t (refuses bad_card (λ e. omega arith)))
  step_cases L (deliver i s) P refuses accepts =
      delivery_cases now i s (version_of is_old s) (version_of is_old s) (take_on is_old s i) (take_on is_old s i) st.logs st.logs (taken now i s) (taken now i s)
      (λ (x y : Stepped). P x) refuses
      (λ linked waits. accepts (after_taken now i s) (record {
        beside = taken_beside now i s linked waits;
        genuine = λ _. take_genuine now i s linked waits;
        leaves = take_called now i s linked waits;
      }))

  pub step_beside : (L : ℕ) (s : Step) → Beside is_old r k (step_on is_old r L s st).chassis
  step_beside L s = step_cases L s (λ x. Beside is_old r k x.chassis) (λ n _. now) (λ next is. is.beside)
