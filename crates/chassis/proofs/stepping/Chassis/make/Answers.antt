-- The card's parts of the words and of the logs lie inside, and its own place inside its log; what the call leaves in them is then what a step that makes
-- a message leaves (`made_did`), and the place it leaves lies inside the log again (`made_place`).
use Rattle.std.proofs.Common.{◌+◌, ◌≤◌, refl, arith, get_or}
use Rattle.std.specs.Coded.{le_prop}
use mathlib.Core.Logic.{∥∥₁_elim, ∥∥₁_map}
use Rattle.std.proofs.lemmas.Result.{err_from_is_err_and}
use Rattle.chassis.specs.StepCodeLaws.{logs_room, log_long, place_small, stepped_prop, made_did, refused_ready, made_place}
use Rattle.chassis.proofs.PartLaws.{part_read, part_written}
use Rattle.chassis.proofs.stepping.Chassis.make.Goals as goal

pub append-requires : goal.append-requires
append-requires c =
    ∥∥₁_elim c.args.self.now.ready le_prop
    (λ g.
    rw (
      part_read c.args.self.now.sizes.log_bytes c.args.card c.args.self.now.logs.now _ _ c.log.ensures.0 c.log.ensures.1,
      log_long _ _ _ _ g c.args.card c.requires.0,
      c.link-own.ensures.0,
    )
    (place_small _ _ _ _ g c.args.card c.args.card c.requires.0 c.requires.0))

pub overflow_add-self : goal.overflow_add-self
overflow_add-self c =
    let chassis = c.args.self.now in
    let replica = part_read chassis.sizes.replica_words c.args.card chassis.words.now _ _ c.replica.ensures.0 c.replica.ensures.1 in
    let log = part_read chassis.sizes.log_bytes c.args.card chassis.logs.now _ _ c.log.ensures.0 c.log.ensures.1 in
    let sent = rw (replica, log, c.link-own.ensures.0) at c.in_ok-made.ensures in
    let inside : get_or chassis.places c.link-own.result 0 + c.in_ok-made.made.length ≤ chassis.sizes.log_bytes
    = ∥∥₁_elim chassis.ready le_prop
    (λ g. rw c.link-own.ensures.0 (made_place _ _ _ _ g c.args.making c.args.card c.args.counter _ _ _ _ c.requires.0 c.requires.1 refl sent)) in
    let room = ∥∥₁_elim chassis.ready le_prop (λ g. logs_room _ _ _ _ g c.args.card c.requires.0) in
    omega (arith, inside, room)

pub invariant_of-self : goal.invariant_of-self
invariant_of-self c =
    let chassis = c.args.self.now in
    let replica = part_read chassis.sizes.replica_words c.args.card chassis.words.now _ _ c.replica.ensures.0 c.replica.ensures.1 in
    let log = part_read chassis.sizes.log_bytes c.args.card chassis.logs.now _ _ c.log.ensures.0 c.log.ensures.1 in
    let sent = rw (replica, log, c.link-own.ensures.0) at c.in_err-made.ensures in
    record {
      ready =
          ∥∥₁_map chassis.ready
          (λ g.
          rw (
            part_written chassis.sizes.replica_words c.args.card chassis.words.now _ _ c.replica.ensures.0 c.replica.ensures.1 c.append.new.replica,
            part_written chassis.sizes.log_bytes c.args.card chassis.logs.now _ _ c.log.ensures.0 c.log.ensures.1 c.append.new.log,
          )
          (refused_ready _ _ _ _ g c.args.making c.args.card c.args.counter _ _ _ _ c.requires.0 c.requires.1 refl sent refl));
    }

pub invariant_of-self-2 : goal.invariant_of-self-2
invariant_of-self-2 c =
    let chassis = c.args.self.now in
    let replica = part_read chassis.sizes.replica_words c.args.card chassis.words.now _ _ c.replica.ensures.0 c.replica.ensures.1 in
    let log = part_read chassis.sizes.log_bytes c.args.card chassis.logs.now _ _ c.log.ensures.0 c.log.ensures.1 in
    let sent = rw (replica, log, c.link-own.ensures.0) at c.in_ok-made.ensures in
    record {
      ready =
          ∥∥₁_map chassis.ready
          (λ g.
          rw (
            part_written chassis.sizes.replica_words c.args.card chassis.words.now _ _ c.replica.ensures.0 c.replica.ensures.1 c.append.new.replica,
            part_written chassis.sizes.log_bytes c.args.card chassis.logs.now _ _ c.log.ensures.0 c.log.ensures.1 c.append.new.log,
            c.link-own.ensures.0,
          )
          (made_did _ _ _ _ g c.args.making c.args.card c.args.counter _ _ _ _ c.requires.0 c.requires.1 refl sent).1);
    }

pub returns-clause-ready : goal.returns-clause-ready
returns-clause-ready c =
    let chassis = c.args.self.now in
    let replica = part_read chassis.sizes.replica_words c.args.card chassis.words.now _ _ c.replica.ensures.0 c.replica.ensures.1 in
    let log = part_read chassis.sizes.log_bytes c.args.card chassis.logs.now _ _ c.log.ensures.0 c.log.ensures.1 in
    let sent = rw (replica, log, c.link-own.ensures.0) at c.in_ok-made.ensures in
    λ g.
    rw (
      part_written chassis.sizes.replica_words c.args.card chassis.words.now _ _ c.replica.ensures.0 c.replica.ensures.1 c.append.new.replica,
      part_written chassis.sizes.log_bytes c.args.card chassis.logs.now _ _ c.log.ensures.0 c.log.ensures.1 c.append.new.log,
      c.link-own.ensures.0,
    )
    (made_did _ _ _ _ g c.args.making c.args.card c.args.counter _ _ _ _ c.requires.0 c.requires.1 refl sent).1

pub returns-in_err-made-clause-ready : goal.returns-in_err-made-clause-ready
returns-in_err-made-clause-ready c =
    let chassis = c.args.self.now in
    let replica = part_read chassis.sizes.replica_words c.args.card chassis.words.now _ _ c.replica.ensures.0 c.replica.ensures.1 in
    let log = part_read chassis.sizes.log_bytes c.args.card chassis.logs.now _ _ c.log.ensures.0 c.log.ensures.1 in
    let sent = rw (replica, log, c.link-own.ensures.0) at c.in_err-made.ensures in
    λ g.
    rw (
      part_written chassis.sizes.replica_words c.args.card chassis.words.now _ _ c.replica.ensures.0 c.replica.ensures.1 c.append.new.replica,
      part_written chassis.sizes.log_bytes c.args.card chassis.logs.now _ _ c.log.ensures.0 c.log.ensures.1 c.append.new.log,
    )
    (refused_ready _ _ _ _ g c.args.making c.args.card c.args.counter _ _ _ _ c.requires.0 c.requires.1 refl sent refl)

pub returns-clause-done : goal.returns-clause-done
returns-clause-done c =
    let chassis = c.args.self.now in
    let replica = part_read chassis.sizes.replica_words c.args.card chassis.words.now _ _ c.replica.ensures.0 c.replica.ensures.1 in
    let log = part_read chassis.sizes.log_bytes c.args.card chassis.logs.now _ _ c.log.ensures.0 c.log.ensures.1 in
    let sent = rw (replica, log, c.link-own.ensures.0) at c.in_ok-made.ensures in
    ∥∥₁_elim chassis.ready (stepped_prop _ _)
    (λ g.
    rw (
      part_written chassis.sizes.replica_words c.args.card chassis.words.now _ _ c.replica.ensures.0 c.replica.ensures.1 c.append.new.replica,
      part_written chassis.sizes.log_bytes c.args.card chassis.logs.now _ _ c.log.ensures.0 c.log.ensures.1 c.append.new.log,
    )
    (made_did _ _ _ _ g c.args.making c.args.card c.args.counter _ _ _ _ c.requires.0 c.requires.1 refl sent).0)

pub returns-in_err-made-clause-done : goal.returns-in_err-made-clause-done
returns-in_err-made-clause-done c =
    let chassis = c.args.self.now in
    let replica = part_read chassis.sizes.replica_words c.args.card chassis.words.now _ _ c.replica.ensures.0 c.replica.ensures.1 in
    let log = part_read chassis.sizes.log_bytes c.args.card chassis.logs.now _ _ c.log.ensures.0 c.log.ensures.1 in
    let sent = rw (replica, log, c.link-own.ensures.0) at c.in_err-made.ensures in
    let p = err_from_is_err_and c.from_residual.result c.from_residual.ensures.1 in
    ∥∥₁_elim chassis.ready (stepped_prop _ _)
    (λ g.
    rw (
      p.1,
      p.2,
      part_written chassis.sizes.replica_words c.args.card chassis.words.now _ _ c.replica.ensures.0 c.replica.ensures.1 c.append.new.replica,
      part_written chassis.sizes.log_bytes c.args.card chassis.logs.now _ _ c.log.ensures.0 c.log.ensures.1 c.append.new.log,
    )
    (made_did _ _ _ _ g c.args.making c.args.card c.args.counter _ _ _ _ c.requires.0 c.requires.1 refl sent).0)
