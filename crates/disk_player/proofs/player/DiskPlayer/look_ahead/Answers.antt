use Rattle.std.proofs.Common.{◌<◌, ◌∙◌, true, inl, inr, sym, ap, arith, subst}
use Rattle.driver_words.specs.Rings.{Sending}
use Rattle.disk_player.specs.Insides.{LooksAhead, seen_of}
use Rattle.disk_player.specs.Playing.{Playing}
use Rattle.disk_player.specs.declared.player.DiskPlayer.TheInside.{Inside}
use Rattle.disk_player.proofs.InsideLemmas.{looks-filled, looks-found, looks-over, looks-same}
use Rattle.disk_player.proofs.player.DiskPlayer.look_ahead.Goals.{then-not-self+in_ok-count, else-not-self}
use Rattle.disk_player.proofs.player.DiskPlayer.look_ahead.Goals as goal

pub returns-then-self-clause-ahead : goal.returns-then-self-clause-ahead
returns-then-self-clause-ahead g c =
    subst (λ (p : Playing). LooksAhead p p) c.self.view_is
    (looks-same c.self.invariant (ap (λ (p : Playing). p.failed) c.self.view_is ∙ c.requires) (inl c.if-self.true))

pub returns-then-self-gt0-clause-ahead : goal.returns-then-self-gt0-clause-ahead
returns-then-self-gt0-clause-ahead g c =
    subst (λ (p : Playing). LooksAhead p p) c.self.view_is
    (looks-same c.self.invariant (ap (λ (p : Playing). p.failed) c.self.view_is ∙ c.requires) (inr c.if-self-gt0.true))

pub returns-then-self-eq0-clause-ahead : goal.returns-then-self-eq0-clause-ahead
returns-then-self-eq0-clause-ahead g c =
    subst (λ (p : Playing). LooksAhead p (seen_of c.if-not-self.self-inside.wave c.end.new.self c.if-not-self.self-inside.block.samples.items c.if-not-self.self-inside.waiting c.if-not-self.self-inside.exhausted)) c.self.view_is
    (subst (λ (s : Sending). LooksAhead (seen_of c.self.inside.wave c.self.inside.producer c.self.inside.block.samples.items c.self.inside.waiting c.self.inside.exhausted)
    (seen_of c.if-not-self.self-inside.wave s c.if-not-self.self-inside.block.samples.items c.if-not-self.self-inside.waiting c.if-not-self.self-inside.exhausted)) (sym c.end.ensures)
    (elim c.if-not-self.branch [
      | then-not-self+in_ok-count w ↦
          subst (λ (i : Inside g.row.S.Denot). LooksAhead (seen_of c.self.inside.wave c.self.inside.producer c.self.inside.block.samples.items c.self.inside.waiting c.self.inside.exhausted)
          (seen_of i.wave (record i.producer { ended = true }) i.block.samples.items i.waiting i.exhausted)) (sym w.self-inside-is)
          (looks-found c.self.invariant (omega (arith, c.if-self-gt0.false)) w.if-not-self.true c.if-self.false (ap (λ (p : Playing). p.failed) c.self.view_is ∙ c.requires)
          w.fill_block.new.wave w.fill_block.new.block w.in_ok-count.count w.in_ok-count.ensures.fills w.in_ok-count.ensures.same w.in_ok-count.ensures.failed w.in_ok-count.ensures.room
          (sym (ap (λ (i : Inside g.row.S.Denot). i.waiting) w.self-inside-is) ∙ c.if-self-eq0.true))
      | else-not-self w ↦
          subst (λ (i : Inside g.row.S.Denot). LooksAhead (seen_of c.self.inside.wave c.self.inside.producer c.self.inside.block.samples.items c.self.inside.waiting c.self.inside.exhausted)
          (seen_of i.wave (record i.producer { ended = true }) i.block.samples.items i.waiting i.exhausted)) (sym w.self-inside-is)
          (looks-over c.self.invariant (ap (λ (p : Playing). p.failed) c.self.view_is ∙ c.requires) w.if-not-self.false (omega (arith, c.if-self-gt0.false)))
    ]))

pub returns-else-self-eq0-clause-ahead : goal.returns-else-self-eq0-clause-ahead
returns-else-self-eq0-clause-ahead g c =
    subst (λ (p : Playing). LooksAhead p (seen_of c.if-not-self.self-inside.wave c.if-not-self.self-inside.producer c.if-not-self.self-inside.block.samples.items c.if-not-self.self-inside.waiting c.if-not-self.self-inside.exhausted)) c.self.view_is
    (elim c.if-not-self.branch [
      | then-not-self+in_ok-count w ↦
          subst (λ (i : Inside g.row.S.Denot). LooksAhead (seen_of c.self.inside.wave c.self.inside.producer c.self.inside.block.samples.items c.self.inside.waiting c.self.inside.exhausted)
          (seen_of i.wave i.producer i.block.samples.items i.waiting i.exhausted)) (sym w.self-inside-is)
          (looks-filled c.self.invariant (omega (arith, c.if-self-gt0.false)) w.if-not-self.true c.if-self.false (ap (λ (p : Playing). p.failed) c.self.view_is ∙ c.requires)
          w.fill_block.new.wave w.fill_block.new.block w.in_ok-count.count w.in_ok-count.ensures.fills w.in_ok-count.ensures.same w.in_ok-count.ensures.failed w.in_ok-count.ensures.room
          (subst (λ n. 0 < n) (ap (λ (i : Inside g.row.S.Denot). i.waiting) w.self-inside-is) (omega (arith, c.if-self-eq0.false))))
      | else-not-self w ↦ absurd (c.if-self-eq0.false (ap (λ (i : Inside g.row.S.Denot). i.waiting) w.self-inside-is ∙ omega (arith, c.if-self-gt0.false)))
    ])
