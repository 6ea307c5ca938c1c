use Rattle.driver_laws.specs.Drivers.{content_now}
use Rattle.driver_laws.proofs.OwnLemmas.{PlaysOnce-own, played-now}
use Rattle.driver_laws.proofs.cycling.own_terms_are_the_courses.Goals as goal

pub returns-clause-plays : goal.returns-clause-plays
returns-clause-plays c = λ driver after left course steps own fits keeps told.
    PlaysOnce-own driver after steps left own course fits keeps told (c.one_client_of_each.ensures after.script.header.capture after.script.header.playback (content_now after))

pub returns-clause-playback : goal.returns-clause-playback
returns-clause-playback c = λ driver after left course steps own fits keeps told. played-now driver after steps left own course fits keeps told
