-- Each test is a check of the call (`refused_sizes` and the others); where all pass the rounds do the rest (`pump_given`, `pumped`).
use Rattle.std.proofs.Common.{rules, refl, sym, ◌∙◌}
use Rattle.pending.specs.DeliverLaws.{refused_sizes, sized, words_fit, logs_long, refused_replica, refused_row, refused_log, pump_given, pumped}
use Rattle.pending.proofs.deliver.deliver_pending.Goals as goal

pub returns-then-not-is_chassis : goal.returns-then-not-is_chassis
returns-then-not-is_chassis c = refused_sizes _ _ _ _ _ _ (sym c.is_chassis.ensures ∙ c.if-not-is_chassis.true)

pub new-sizes-requires : goal.new-sizes-requires
new-sizes-requires c =
    let in_range = sized _ _ _ _ _ (sym c.if-not-is_chassis.ensures) in
    (in_range.few_cards, in_range.few_counters)

pub invariant_of-replicas : goal.invariant_of-replicas
invariant_of-replicas c = rw c.new-sizes.ensures (record { fit = words_fit _ _ _ _ _ (sym c.if-not-is_chassis.ensures) })

pub are_in_place-requires : goal.are_in_place-requires
are_in_place-requires c = rw c.new-sizes.ensures (sized _ _ _ _ _ (sym c.if-not-is_chassis.ensures)).some_counters

pub are_rows_well_formed-requires : goal.are_rows_well_formed-requires
are_rows_well_formed-requires c =
    (rw c.new-sizes.ensures (sized _ _ _ _ _ (sym c.if-not-is_chassis.ensures)).some_counters, sym c.if-not-are_in_place.ensures)

pub find_all_places-requires : goal.find_all_places-requires
find_all_places-requires c = rw c.new-sizes.ensures (logs_long _ _ _ _ _ (sym c.if-not-is_chassis.ensures))

pub returns-then-not-are_in_place : goal.returns-then-not-are_in_place
returns-then-not-are_in_place c =
    let refused = refused_replica _ c.args.logs.now (rw c.new-sizes.ensures (sym c.if-not-is_chassis.ensures)) c.args.most (sym c.if-not-are_in_place.ensures) in
    rw c.new-sizes.ensures at refused

pub returns-then-not-are_rows_well_formed : goal.returns-then-not-are_rows_well_formed
returns-then-not-are_rows_well_formed c =
    let refused =
    refused_row _ c.args.logs.now (rw c.new-sizes.ensures (sym c.if-not-is_chassis.ensures)) c.args.most (sym c.if-not-are_in_place.ensures)
    (sym c.if-not-are_rows_well_formed.ensures) in
    rw c.new-sizes.ensures at refused

pub returns-then-not-find_all_places : goal.returns-then-not-find_all_places
returns-then-not-find_all_places c =
    let wrong = sym c.if-not-find_all_places.ensures.right in
    let refused =
    refused_log _ _ (rw c.new-sizes.ensures (sym c.if-not-is_chassis.ensures)) c.args.most (sym c.if-not-are_in_place.ensures)
    (sym c.if-not-are_rows_well_formed.ensures) wrong in
    rw c.new-sizes.ensures at refused

pub invariant_of-pump : goal.invariant_of-pump
invariant_of-pump c =
    record {
      ready =
          pump_given _ _ (rw c.new-sizes.ensures (sym c.if-not-is_chassis.ensures)) (sym c.if-not-are_in_place.ensures)
          (sym c.if-not-are_rows_well_formed.ensures) _ _ c.if-not-find_all_places.ensures refl;
    }

pub returns : goal.returns
returns c =
    let right = sym c.if-not-find_all_places.ensures.right in
    let done =
    pumped _ _ (rw c.new-sizes.ensures (sym c.if-not-is_chassis.ensures)) c.args.most (sym c.if-not-are_in_place.ensures)
    (sym c.if-not-are_rows_well_formed.ensures) right _ _ c.run.ensures.done in
    let done' = rw c.new-sizes.ensures at done in
    search (rules, done')
