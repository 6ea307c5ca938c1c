use Rattle.std.proofs.Common.{◌≡◌, ◌<◌, ◌-◌, ◌==◌, ◌∙◌, cond, set, slice_index, sym, ap, subst, arith, true}
use Rattle.std.proofs.lemmas.List.{length-map}
use Rattle.session_laws.specs.jack_types.specs.declared.ports.Link.{Link}
use Rattle.session_laws.specs.session_model.specs.Activation.{link_at, no_link, IsConsistent}
use Rattle.activation.specs.declared.stands.Stand.TheVariants as stand
use Rattle.activation.specs.declared.stands.Step.{Step}
use Rattle.activation.specs.declared.stands.Step.TheVariants as step
use Rattle.activation.specs.Steps.{Course, IsCourse, MayStep, behind, course_of, place}
use Rattle.activation.proofs.Machines.{get_or_any}
use Rattle.activation.proofs.Courses.{behind-is, start-is, release-is, home-is}
use Rattle.activation.proofs.cores.Core.step.Goals as goal

pub invariant_of-self : goal.invariant_of-self
invariant_of-self c =
    let o = c.self.inside in
    let old : Course = course_of o.links.items o.seats o.counters.items o.started.items o.stands.items o.released.items in
    let may : MayStep old (step.Start c.in-Start.seat c.in-Start.node) = subst (λ (x : Course × Step). MayStep x.0 x.1) (λ i. (sym c.self.view_is i, c.in-Start.is i)) c.requires in
    let it = start-is o.links.items o.seats o.counters.items o.started.items o.stands.items o.released.items c.self.invariant c.in-Start.seat c.in-Start.node may in
    let now : course_of o.links.items o.seats c.lower.new.counters.items (set o.started.items c.in-Start.node true) c.lower.new.stands.items o.released.items ≡ behind old (step.Start c.in-Start.seat c.in-Start.node) =
    (λ i. course_of o.links.items o.seats (c.lower.ensures.counters i) (set o.started.items c.in-Start.node true) (c.lower.ensures.stands i) o.released.items) ∙ sym it.1 in
    let is : IsCourse (behind old (step.Start c.in-Start.seat c.in-Start.node)) = behind-is old (step.Start c.in-Start.seat c.in-Start.node) c.self.invariant may in
    subst IsCourse (sym now) is

pub returns-in-Start-clause-valid : goal.returns-in-Start-clause-valid
returns-in-Start-clause-valid c =
    let o = c.self.inside in
    let old : Course = course_of o.links.items o.seats o.counters.items o.started.items o.stands.items o.released.items in
    let may : MayStep old (step.Start c.in-Start.seat c.in-Start.node) = subst (λ (x : Course × Step). MayStep x.0 x.1) (λ i. (sym c.self.view_is i, c.in-Start.is i)) c.requires in
    let it = start-is o.links.items o.seats o.counters.items o.started.items o.stands.items o.released.items c.self.invariant c.in-Start.seat c.in-Start.node may in
    let now : course_of o.links.items o.seats c.lower.new.counters.items (set o.started.items c.in-Start.node true) c.lower.new.stands.items o.released.items ≡ behind old (step.Start c.in-Start.seat c.in-Start.node) =
    (λ i. course_of o.links.items o.seats (c.lower.ensures.counters i) (set o.started.items c.in-Start.node true) (c.lower.ensures.stands i) o.released.items) ∙ sym it.1 in
    let is : IsCourse (behind old (step.Start c.in-Start.seat c.in-Start.node)) = behind-is old (step.Start c.in-Start.seat c.in-Start.node) c.self.invariant may in
    subst (λ (x : Course). IsConsistent x.links x.machine) (sym now) is.consistent

pub returns-in-Start-clause-behind : goal.returns-in-Start-clause-behind
returns-in-Start-clause-behind c =
    let o = c.self.inside in
    let old : Course = course_of o.links.items o.seats o.counters.items o.started.items o.stands.items o.released.items in
    let may : MayStep old (step.Start c.in-Start.seat c.in-Start.node) = subst (λ (x : Course × Step). MayStep x.0 x.1) (λ i. (sym c.self.view_is i, c.in-Start.is i)) c.requires in
    let it = start-is o.links.items o.seats o.counters.items o.started.items o.stands.items o.released.items c.self.invariant c.in-Start.seat c.in-Start.node may in
    let now : course_of o.links.items o.seats c.lower.new.counters.items (set o.started.items c.in-Start.node true) c.lower.new.stands.items o.released.items ≡ behind old (step.Start c.in-Start.seat c.in-Start.node) =
    (λ i. course_of o.links.items o.seats (c.lower.ensures.counters i) (set o.started.items c.in-Start.node true) (c.lower.ensures.stands i) o.released.items) ∙ sym it.1 in
    let is : IsCourse (behind old (step.Start c.in-Start.seat c.in-Start.node)) = behind-is old (step.Start c.in-Start.seat c.in-Start.node) c.self.invariant may in
    now ∙ (λ i. behind (c.self.view_is i) (sym c.in-Start.is i))

pub invariant_of-self-in-Release : goal.invariant_of-self-in-Release
invariant_of-self-in-Release c =
    let o = c.self.inside in
    let old : Course = course_of o.links.items o.seats o.counters.items o.started.items o.stands.items o.released.items in
    let may : MayStep old (step.Release c.in-Release.seat c.in-Release.link) = subst (λ (x : Course × Step). MayStep x.0 x.1) (λ i. (sym c.self.view_is i, c.in-Release.is i)) c.requires in
    let it = release-is o.links.items o.seats o.counters.items o.started.items o.stands.items o.released.items c.self.invariant c.in-Release.seat c.in-Release.link may in
    let to : c.index.result.now.to ≡ (link_at o.links.items c.in-Release.link).to = ap (λ (l : Link). l.to) (c.index.ensures ∙ get_or_any o.links.items c.in-Release.link _ no_link may.0) in
    let now : course_of o.links.items o.seats c.lower-in-Release.new.counters.items o.started.items c.lower-in-Release.new.stands.items (set o.released.items c.in-Release.link true) ≡ behind old (step.Release c.in-Release.seat c.in-Release.link) =
    (λ i. course_of o.links.items o.seats (c.lower-in-Release.ensures.counters i) o.started.items (c.lower-in-Release.ensures.stands i) (set o.released.items c.in-Release.link true))
    ∙ (λ i. course_of o.links.items o.seats (set o.counters.items (to i) (slice_index o.counters.items (to i) - 1)) o.started.items (cond (slice_index o.counters.items (to i) == 1) (set o.stands.items (to i) (stand.Held c.in-Release.seat)) o.stands.items) (set o.released.items c.in-Release.link true))
    ∙ sym it.2 in
    let is : IsCourse (behind old (step.Release c.in-Release.seat c.in-Release.link)) = behind-is old (step.Release c.in-Release.seat c.in-Release.link) c.self.invariant may in
    subst IsCourse (sym now) is

pub returns-in-Release-clause-valid : goal.returns-in-Release-clause-valid
returns-in-Release-clause-valid c =
    let o = c.self.inside in
    let old : Course = course_of o.links.items o.seats o.counters.items o.started.items o.stands.items o.released.items in
    let may : MayStep old (step.Release c.in-Release.seat c.in-Release.link) = subst (λ (x : Course × Step). MayStep x.0 x.1) (λ i. (sym c.self.view_is i, c.in-Release.is i)) c.requires in
    let it = release-is o.links.items o.seats o.counters.items o.started.items o.stands.items o.released.items c.self.invariant c.in-Release.seat c.in-Release.link may in
    let to : c.index.result.now.to ≡ (link_at o.links.items c.in-Release.link).to = ap (λ (l : Link). l.to) (c.index.ensures ∙ get_or_any o.links.items c.in-Release.link _ no_link may.0) in
    let now : course_of o.links.items o.seats c.lower-in-Release.new.counters.items o.started.items c.lower-in-Release.new.stands.items (set o.released.items c.in-Release.link true) ≡ behind old (step.Release c.in-Release.seat c.in-Release.link) =
    (λ i. course_of o.links.items o.seats (c.lower-in-Release.ensures.counters i) o.started.items (c.lower-in-Release.ensures.stands i) (set o.released.items c.in-Release.link true))
    ∙ (λ i. course_of o.links.items o.seats (set o.counters.items (to i) (slice_index o.counters.items (to i) - 1)) o.started.items (cond (slice_index o.counters.items (to i) == 1) (set o.stands.items (to i) (stand.Held c.in-Release.seat)) o.stands.items) (set o.released.items c.in-Release.link true))
    ∙ sym it.2 in
    let is : IsCourse (behind old (step.Release c.in-Release.seat c.in-Release.link)) = behind-is old (step.Release c.in-Release.seat c.in-Release.link) c.self.invariant may in
    subst (λ (x : Course). IsConsistent x.links x.machine) (sym now) is.consistent

pub returns-in-Release-clause-behind : goal.returns-in-Release-clause-behind
returns-in-Release-clause-behind c =
    let o = c.self.inside in
    let old : Course = course_of o.links.items o.seats o.counters.items o.started.items o.stands.items o.released.items in
    let may : MayStep old (step.Release c.in-Release.seat c.in-Release.link) = subst (λ (x : Course × Step). MayStep x.0 x.1) (λ i. (sym c.self.view_is i, c.in-Release.is i)) c.requires in
    let it = release-is o.links.items o.seats o.counters.items o.started.items o.stands.items o.released.items c.self.invariant c.in-Release.seat c.in-Release.link may in
    let to : c.index.result.now.to ≡ (link_at o.links.items c.in-Release.link).to = ap (λ (l : Link). l.to) (c.index.ensures ∙ get_or_any o.links.items c.in-Release.link _ no_link may.0) in
    let now : course_of o.links.items o.seats c.lower-in-Release.new.counters.items o.started.items c.lower-in-Release.new.stands.items (set o.released.items c.in-Release.link true) ≡ behind old (step.Release c.in-Release.seat c.in-Release.link) =
    (λ i. course_of o.links.items o.seats (c.lower-in-Release.ensures.counters i) o.started.items (c.lower-in-Release.ensures.stands i) (set o.released.items c.in-Release.link true))
    ∙ (λ i. course_of o.links.items o.seats (set o.counters.items (to i) (slice_index o.counters.items (to i) - 1)) o.started.items (cond (slice_index o.counters.items (to i) == 1) (set o.stands.items (to i) (stand.Held c.in-Release.seat)) o.stands.items) (set o.released.items c.in-Release.link true))
    ∙ sym it.2 in
    let is : IsCourse (behind old (step.Release c.in-Release.seat c.in-Release.link)) = behind-is old (step.Release c.in-Release.seat c.in-Release.link) c.self.invariant may in
    now ∙ (λ i. behind (c.self.view_is i) (sym c.in-Release.is i))

pub invariant_of-self-in-Home : goal.invariant_of-self-in-Home
invariant_of-self-in-Home c =
    let o = c.self.inside in
    let old : Course = course_of o.links.items o.seats o.counters.items o.started.items o.stands.items o.released.items in
    let may : MayStep old (step.Home c.in-Home.field-0 c.in-Home.node) = subst (λ (x : Course × Step). MayStep x.0 x.1) (λ i. (sym c.self.view_is i, c.in-Home.is i)) c.requires in
    let now : course_of o.links.items o.seats o.counters.items o.started.items (set o.stands.items c.in-Home.node stand.Home) o.released.items ≡ behind old (step.Home c.in-Home.field-0 c.in-Home.node) = sym (home-is o.links.items o.seats o.counters.items o.started.items o.stands.items o.released.items c.self.invariant c.in-Home.field-0 c.in-Home.node) in
    let is : IsCourse (behind old (step.Home c.in-Home.field-0 c.in-Home.node)) = behind-is old (step.Home c.in-Home.field-0 c.in-Home.node) c.self.invariant may in
    subst IsCourse (sym now) is

pub returns-in-Home-clause-valid : goal.returns-in-Home-clause-valid
returns-in-Home-clause-valid c =
    let o = c.self.inside in
    let old : Course = course_of o.links.items o.seats o.counters.items o.started.items o.stands.items o.released.items in
    let may : MayStep old (step.Home c.in-Home.field-0 c.in-Home.node) = subst (λ (x : Course × Step). MayStep x.0 x.1) (λ i. (sym c.self.view_is i, c.in-Home.is i)) c.requires in
    let now : course_of o.links.items o.seats o.counters.items o.started.items (set o.stands.items c.in-Home.node stand.Home) o.released.items ≡ behind old (step.Home c.in-Home.field-0 c.in-Home.node) = sym (home-is o.links.items o.seats o.counters.items o.started.items o.stands.items o.released.items c.self.invariant c.in-Home.field-0 c.in-Home.node) in
    let is : IsCourse (behind old (step.Home c.in-Home.field-0 c.in-Home.node)) = behind-is old (step.Home c.in-Home.field-0 c.in-Home.node) c.self.invariant may in
    subst (λ (x : Course). IsConsistent x.links x.machine) (sym now) is.consistent

pub returns-in-Home-clause-behind : goal.returns-in-Home-clause-behind
returns-in-Home-clause-behind c =
    let o = c.self.inside in
    let old : Course = course_of o.links.items o.seats o.counters.items o.started.items o.stands.items o.released.items in
    let may : MayStep old (step.Home c.in-Home.field-0 c.in-Home.node) = subst (λ (x : Course × Step). MayStep x.0 x.1) (λ i. (sym c.self.view_is i, c.in-Home.is i)) c.requires in
    let now : course_of o.links.items o.seats o.counters.items o.started.items (set o.stands.items c.in-Home.node stand.Home) o.released.items ≡ behind old (step.Home c.in-Home.field-0 c.in-Home.node) = sym (home-is o.links.items o.seats o.counters.items o.started.items o.stands.items o.released.items c.self.invariant c.in-Home.field-0 c.in-Home.node) in
    let is : IsCourse (behind old (step.Home c.in-Home.field-0 c.in-Home.node)) = behind-is old (step.Home c.in-Home.field-0 c.in-Home.node) c.self.invariant may in
    now ∙ (λ i. behind (c.self.view_is i) (sym c.in-Home.is i))

pub lower-requires-in-Release : goal.lower-requires-in-Release
lower-requires-in-Release c =
    let o = c.self.inside in
    let old : Course = course_of o.links.items o.seats o.counters.items o.started.items o.stands.items o.released.items in
    let may : MayStep old (step.Release c.in-Release.seat c.in-Release.link) = subst (λ (x : Course × Step). MayStep x.0 x.1) (λ i. (sym c.self.view_is i, c.in-Release.is i)) c.requires in
    let it = release-is o.links.items o.seats o.counters.items o.started.items o.stands.items o.released.items c.self.invariant c.in-Release.seat c.in-Release.link may in
    let to : c.index.result.now.to ≡ (link_at o.links.items c.in-Release.link).to = ap (λ (l : Link). l.to) (c.index.ensures ∙ get_or_any o.links.items c.in-Release.link _ no_link may.0) in
    (omega (arith, to, it.0, c.self.invariant.consistent.counters, length-map o.stands.items place), omega (arith, to, it.0), subst (λ n. 0 < slice_index o.counters.items n) (sym to) it.1)
