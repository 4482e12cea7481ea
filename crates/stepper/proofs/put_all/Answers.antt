use Rattle.std.proofs.Common.{arith, rules, ◌≡◌, ◌∙◌, ◌*◌, ◌≤◌, length, List, ℤ, refl}
use Rattle.keeper.specs.Keeping.{outcome_of}
use Rattle.history.specs.Agreement.{run}
use Rattle.stepper.specs.Steps.{first_events}
use Rattle.stepper.proofs.Laws.{room_fits, next_count, next_keeper, next_long, next_held, none_count, end_count, held_is, start_keeper}
use Rattle.stepper.proofs.Laws.{start_held, start_long, start_count, put_room}
use Rattle.stepper.proofs.put_all.Goals as goal

pub loop-i-init : goal.loop-i-init
loop-i-init g c =
    record {
      kept = search start_keeper;
      held = λ each p. (start_held each c.args.numbers.now c.args.buffer.now, start_long each c.args.numbers.now c.args.width);
      count = search start_count;
    }

pub returns-in_default-clause-value : goal.returns-in_default-clause-value
returns-in_default-clause-value g c = (search none_count, search rules)

pub returns-in_default-clause-told : goal.returns-in_default-clause-told
returns-in_default-clause-told g c = λ each p. let h = c.loop-i.invariant.held each p in search (held_is, none_count)

pub put-requires : goal.put-requires
put-requires g c =
    let room : c.args.width * c.args.end ≤ length c.loop-i.buffer = search rules in
    c.requires.callable _ _ _ (put_room c.args.width c.loop-i.buffer c.loop-i-test.true room)

pub loop-i-preserved : goal.loop-i-preserved
loop-i-preserved g c =
    record {
      kept = search next_keeper;
      held = λ each p.
          let s : List ℤ = c.args.numbers.now in
          let h = c.loop-i.invariant.held each p in
          let told : c.step-outcome.result ≡ outcome_of (run (first_events c.loop-i.i s)) c.in-Some.event =
          rw c.loop-i.invariant.kept at c.step-outcome.ensures in
          let put = p.put c.in-Some.event (first_events c.loop-i.i s) _ _ _ (rw told at c.put.ensures) in (
            next_held s c.loop-i.i c.event_numbered.ensures c.in-Some.is each c.args.width h.1 c.args.buffer.now c.loop-i.buffer h.0 refl put,
            next_long s c.loop-i.i c.event_numbered.ensures c.in-Some.is each c.args.width h.1 p.size,
          );
      count = search next_count;
    }

pub returns-clause-value : goal.returns-clause-value
returns-clause-value g c = (let e : c.args.end ≡ c.loop-i.i = omega arith in e ∙ search end_count, search rules)

pub returns-clause-told : goal.returns-clause-told
returns-clause-told g c = λ each p. let h = c.loop-i.invariant.held each p in search (held_is, end_count)
