use Rattle.std.proofs.Common.{◌≡◌, ◌∙◌, [], ◌∷◌, List, length, get_or, set, slice_get, map, Some, None, refl, sym, ap, ap₂, arith}
use Rattle.std.proofs.lemmas.Option.{slice_get_read}
use Rattle.recorder_files.specs.Recorders.{Recording, Stored, held_in}
use Rattle.session_ends.specs.Takings.{stores_of}
use Rattle.session_ends.proofs.TakeLemmas.{emptied, taken-all, taken-more, taken-one, taken-same, taken-set}
use Rattle.session_ends.proofs.taking.take_recorded.Goals as goal

pub returns-in-Some-clause-taken : goal.returns-in-Some-clause-taken
returns-in-Some-clause-taken g c =
    taken-one c.args.recorders.now.items c.loop-recorder.recorder c.index_mut.result.now back there (sym c.in-Some.ensures.store) c.loop-recorder.invariant.taken
    ∙ ap (λ (rs : List Recording). back ∷ stores_of rs) (sym set_is)
  where
    there : slice_get c.args.recorders.now.items c.loop-recorder.recorder ≡ Some c.index_mut.result.now
    there = slice_get_read c.args.recorders.now.items (length c.args.recorders.now.items) c.loop-recorder.recorder c.index_mut.result.now refl (omega (arith, c.loop-recorder-test.true, c.loop-recorder.invariant.end))
        (c.index_mut.ensures.value ∙ ap (λ (rs : List Recording). get_or rs c.loop-recorder.recorder c.index_mut.result.now) c.loop-recorder.invariant.same)

    set_is : set c.loop-recorder.recorders.items c.loop-recorder.recorder c.take.new.self ≡ set c.args.recorders.now.items c.loop-recorder.recorder (emptied c.index_mut.result.now)
    set_is = ap₂ (λ (rs : List Recording) (r : Recording). set rs c.loop-recorder.recorder r) c.loop-recorder.invariant.same c.take.ensures.after

    back : Stored
    back = record { name = g.W.Store.name c.in-Some.store; bytes = g.W.Store.content c.in-Some.store; faults = g.W.Store.faults c.in-Some.store }

pub returns-in-Some-clause-getting : goal.returns-in-Some-clause-getting
returns-in-Some-clause-getting g c =
    ap (map (λ (r : Recording). r.getting)) set_is ∙ taken-same (λ (r : Recording). r.getting) c.args.recorders.now.items c.loop-recorder.recorder c.index_mut.result.now refl there
  where
    there : slice_get c.args.recorders.now.items c.loop-recorder.recorder ≡ Some c.index_mut.result.now
    there = slice_get_read c.args.recorders.now.items (length c.args.recorders.now.items) c.loop-recorder.recorder c.index_mut.result.now refl (omega (arith, c.loop-recorder-test.true, c.loop-recorder.invariant.end))
        (c.index_mut.ensures.value ∙ ap (λ (rs : List Recording). get_or rs c.loop-recorder.recorder c.index_mut.result.now) c.loop-recorder.invariant.same)

    set_is : set c.loop-recorder.recorders.items c.loop-recorder.recorder c.take.new.self ≡ set c.args.recorders.now.items c.loop-recorder.recorder (emptied c.index_mut.result.now)
    set_is = ap₂ (λ (rs : List Recording) (r : Recording). set rs c.loop-recorder.recorder r) c.loop-recorder.invariant.same c.take.ensures.after

pub returns-in-Some-clause-blocks : goal.returns-in-Some-clause-blocks
returns-in-Some-clause-blocks g c =
    ap (map (λ (r : Recording). r.blocks)) set_is ∙ taken-same (λ (r : Recording). r.blocks) c.args.recorders.now.items c.loop-recorder.recorder c.index_mut.result.now refl there
  where
    there : slice_get c.args.recorders.now.items c.loop-recorder.recorder ≡ Some c.index_mut.result.now
    there = slice_get_read c.args.recorders.now.items (length c.args.recorders.now.items) c.loop-recorder.recorder c.index_mut.result.now refl (omega (arith, c.loop-recorder-test.true, c.loop-recorder.invariant.end))
        (c.index_mut.ensures.value ∙ ap (λ (rs : List Recording). get_or rs c.loop-recorder.recorder c.index_mut.result.now) c.loop-recorder.invariant.same)

    set_is : set c.loop-recorder.recorders.items c.loop-recorder.recorder c.take.new.self ≡ set c.args.recorders.now.items c.loop-recorder.recorder (emptied c.index_mut.result.now)
    set_is = ap₂ (λ (rs : List Recording) (r : Recording). set rs c.loop-recorder.recorder r) c.loop-recorder.invariant.same c.take.ensures.after

pub loop-recorder-preserved : goal.loop-recorder-preserved
loop-recorder-preserved g c = record {
  same = set_is ∙ taken-set c.args.recorders.now.items c.loop-recorder.recorder c.index_mut.result.now there none;
  taken = taken-more c.args.recorders.now.items c.loop-recorder.recorder c.index_mut.result.now there none c.loop-recorder.invariant.taken;
  end = c.loop-recorder.invariant.end;
}
  where
    there : slice_get c.args.recorders.now.items c.loop-recorder.recorder ≡ Some c.index_mut.result.now
    there = slice_get_read c.args.recorders.now.items (length c.args.recorders.now.items) c.loop-recorder.recorder c.index_mut.result.now refl (omega (arith, c.loop-recorder-test.true, c.loop-recorder.invariant.end))
        (c.index_mut.ensures.value ∙ ap (λ (rs : List Recording). get_or rs c.loop-recorder.recorder c.index_mut.result.now) c.loop-recorder.invariant.same)

    set_is : set c.loop-recorder.recorders.items c.loop-recorder.recorder c.take.new.self ≡ set c.args.recorders.now.items c.loop-recorder.recorder (emptied c.index_mut.result.now)
    set_is = ap₂ (λ (rs : List Recording) (r : Recording). set rs c.loop-recorder.recorder r) c.loop-recorder.invariant.same c.take.ensures.after

    none : held_in c.index_mut.result.now ≡ None
    none = sym c.in_default.ensures.store

pub returns-clause-none : goal.returns-clause-none
returns-clause-none g c = (all, ap stores_of c.loop-recorder.invariant.same ∙ all)
  where
    all : stores_of c.args.recorders.now.items ≡ []
    all = taken-all c.args.recorders.now.items c.loop-recorder.recorder (omega (arith, c.loop-recorder-test.false, c.loop-recorder.invariant.end)) c.loop-recorder.invariant.taken
