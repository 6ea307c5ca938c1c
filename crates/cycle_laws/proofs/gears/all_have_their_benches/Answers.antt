use Rattle.std.proofs.Common.{◌≡◌, Bool, true, false, refl}
use Rattle.cycle_laws.proofs.gears.all_have_their_benches.Goals as goal

pub returns : goal.returns
returns c sounding gear is of = go gear.stage.staged.is_staffed refl
  where
    go : (b : Bool) → gear.stage.staged.is_staffed ≡ b → b ≡ true
    go true e = refl
    go false e = absurd (c.a_plan_of_a_scripts_calls_is_not_refused.ensures gear.script gear.stage.plan gear.stage.staged.racked gear.stage.staged.owned of is.stands.stands.planned is.stands.stands.seating is.stands.stands.known is.kinds is.guests (is.stands.stands.refused e))
