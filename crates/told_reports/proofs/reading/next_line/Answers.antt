use Rattle.std.proofs.Common.{◌≡◌, ◌∙◌, [], refl, subst, sym}
use Rattle.told_laws.specs.report_reader.specs.Nexts.{IsNext, TakesNext, next_text}
use Rattle.told_laws.specs.report_reader.specs.declared.lines.Next.TheVariants.{Line, Other, End}
use Rattle.told_laws.specs.Tellings.{IsStuck}
use Rattle.told_reports.proofs.StepLemmas.{done-is, if-some-map, left-nothing, steps-line, stuck-end, stuck-line, stuck-other}
use Rattle.told_reports.proofs.reading.next_line.Goals as goal

pub returns-then-is_done-clause-whole : goal.returns-then-is_done-clause-whole
returns-then-is_done-clause-whole g c = λ is. (
  done-is c.args.place (sym c.is_done.ensures ∙ c.if-is_done.true),
  if-some-map c.args.lines.now.left (λ bytes. IsNext (next_text bytes) End) (λ bytes. bytes ≡ []) left-nothing
      (subst (TakesNext c.args.lines.now.left c.next.new.self.left) c.in-End.is c.in-Ok.ensures.next).text,
)

pub returns-in-Some-clause-step : goal.returns-in-Some-clause-step
returns-in-Some-clause-step g c =
    steps-line c.args.limits.now c.args.place c.in-Some.behind c.in-Line.line c.args.lines.now.left c.next.new.self.left
    (subst (TakesNext c.args.lines.now.left c.next.new.self.left) c.in-Line.is c.in-Ok.ensures.next) (sym c.in-Some.ensures)

pub returns-in-None-clause-fault : goal.returns-in-None-clause-fault
returns-in-None-clause-fault g c = (
  refl,
  λ script same.
      if-some-map c.args.lines.now.left (λ bytes. IsNext (next_text bytes) (Line c.in-Line.line)) (IsStuck script c.args.place)
      (λ bytes h. stuck-line script c.args.limits.now same c.args.place bytes c.in-Line.line h (sym c.in-None.ensures))
      (subst (TakesNext c.args.lines.now.left c.next.new.self.left) c.in-Line.is c.in-Ok.ensures.next).text,
)

pub returns-in-Other-clause-fault : goal.returns-in-Other-clause-fault
returns-in-Other-clause-fault g c = (
  refl,
  λ script same.
      if-some-map c.args.lines.now.left (λ bytes. IsNext (next_text bytes) Other) (IsStuck script c.args.place)
      (λ bytes h. stuck-other script c.args.limits.now same c.args.place bytes h)
      (subst (TakesNext c.args.lines.now.left c.next.new.self.left) c.in-Other.is c.in-Ok.ensures.next).text,
)

pub returns-else-is_done-clause-fault : goal.returns-else-is_done-clause-fault
returns-else-is_done-clause-fault g c = (
  refl,
  λ script same.
      if-some-map c.args.lines.now.left (λ bytes. IsNext (next_text bytes) End) (IsStuck script c.args.place)
      (λ bytes h. stuck-end script c.args.limits.now same c.args.place bytes h (sym c.is_done.ensures ∙ c.if-is_done.false))
      (subst (TakesNext c.args.lines.now.left c.next.new.self.left) c.in-End.is c.in-Ok.ensures.next).text,
)
