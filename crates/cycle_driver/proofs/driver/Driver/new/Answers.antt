use Rattle.std.proofs.Common.{map, sym, subst}
use Rattle.driver_laws.specs.Openings.{IsNew}
use Rattle.cycle_works.specs.Gears.{driver_of}
use Rattle.cycle_driver.proofs.driver.Driver.new.Goals as goal

pub returns-in-Ok-make_mix-clause-new : goal.returns-in-Ok-make_mix-clause-new
returns-in-Ok-make_mix-clause-new g c = subst (λ gear. IsNew c.args.script.now (map g.G.Guest.sound (map g.G.Guest.score c.args.guests.items)) (driver_of g.G.Guest.sound gear)) (sym c.around.ensures) c.in-Ok.ensures.new
