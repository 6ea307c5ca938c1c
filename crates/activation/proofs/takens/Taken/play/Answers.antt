use Rattle.std.proofs.Common.{◌∙◌, All, IsSome, sym, subst, ap}
use Rattle.activation.specs.Values.{values_of}
use Rattle.activation.proofs.Played.{all_some, plays}
use Rattle.activation.proofs.takens.Taken.play.Goals as goal

pub play-requires : goal.play-requires
play-requires g c = record { given = subst (All (λ o. IsSome o)) (sym (c.as_slice.ensures.value ∙ c.requires.given.1)) (all_some c.requires.given.0) }

pub returns-clause-played : goal.returns-clause-played
returns-clause-played g c duty u =
    plays g.B.Work.memory g.B.Work.has_room g.B.Work.value_at g.B.Work.after g.B.Work.gives duty c.args.self.now.node c.args.self.now.tray c.play.new.self
    (c.play.ensures.memory ∙ ap (λ l. g.B.Work.after (g.B.Work.memory c.args.self.now.tray.bench) (values_of l)) c.as_slice.ensures.value)
    (λ place on. c.play.ensures.values place on ∙ ap (λ l. g.B.Work.gives (g.B.Work.memory c.args.self.now.tray.bench) (values_of l) place) c.as_slice.ensures.value)
    c.play.ensures.room u
