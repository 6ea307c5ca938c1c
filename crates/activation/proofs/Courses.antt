-- Each allowed step of a core, in the form in which the code does it.
use Rattle.std.proofs.Common.{◌≡◌, ℕ, zero, suc, ◌+◌, ◌-◌, ◌<◌, ◌≤◌, Bool, true, false, cond, ◌==◌, List, [], ◌∷◌, length, map, set, get_or, slice_index, Some, None, refl, sym, ◌∙◌, ap, subst, arith, length-set, get_or-set_same, replicate, if◌then◌else◌}
use Rattle.std.proofs.lemmas.Bool.Decides.{nat_tests}
use Rattle.std.proofs.lemmas.List.{map-set, length-map}
use Rattle.session_laws.specs.jack_types.specs.declared.ports.Link.{Link}
use Rattle.session_laws.specs.session_model.specs.Activation.{AreLinks, Waiting, Held, Machine, fresh, incoming, StartNode, ReleaseLink, HomeNode, PlayNode, no_link, link_at, IsConsistent, node_at_zero, with_fallen}
use Rattle.session_laws.proofs.ActivationLemmas.{IsConsistent-moved, length-moved, length-below, length-map_below, IsConsistent-fresh}
use Rattle.session_laws.specs.session_model.specs.Samples.{below}
use Rattle.activation.specs.declared.stands.Stand.{Stand}
use Rattle.activation.specs.declared.stands.Stand.TheVariants as stand
use Rattle.activation.specs.declared.stands.Step.{Step}
use Rattle.activation.specs.declared.stands.Step.TheVariants as step
use Rattle.activation.specs.Steps.{Course, IsCourse, MayStep, behind, place, course_of, opening, played}
use Rattle.activation.proofs.Machines.{set_twice, open_counts, start_counts}

-- a node whose counter falls to zero is held and played
pub fallen_is : (links : List Link) (seat n : ℕ) (machine : Machine) → 0 < slice_index machine.counters n
    → played links seat (node_at_zero machine n) (with_fallen seat n machine)
    ≡ record machine { counters = set machine.counters n (slice_index machine.counters n - 1); places = cond (slice_index machine.counters n == 1) (set machine.places n (Held seat true)) machine.places }
fallen_is links seat n machine more = go (slice_index machine.counters n == 1) refl
  where
    c : ℕ
    c = slice_index machine.counters n

    go : (b : Bool) → (c == 1) ≡ b
        → played links seat (if b then Some n else None) (record machine { counters = set machine.counters n (c - 1); places = if (c - 1) == 0 then set machine.places n (Held seat false) else machine.places })
        ≡ record machine { counters = set machine.counters n (c - 1); places = cond b (set machine.places n (Held seat true)) machine.places }
    go true e =
        let hit : ((c - 1) == 0) ≡ true = grind (arith, nat_tests) in
        let places : set (if (c - 1) == 0 then set machine.places n (Held seat false) else machine.places) n (Held seat true) ≡ set machine.places n (Held seat true) =
        ap (λ b. set (if b then set machine.places n (Held seat false) else machine.places) n (Held seat true)) hit ∙ set_twice machine.places n (Held seat false) (Held seat true) in
        λ i. record machine { counters = set machine.counters n (c - 1); places = places i }
    go false e =
        let miss : ((c - 1) == 0) ≡ false = grind (arith, nat_tests) in
        let places : (if (c - 1) == 0 then set machine.places n (Held seat false) else machine.places) ≡ machine.places = ap (λ b. if b then set machine.places n (Held seat false) else machine.places) miss in
        λ i. record machine { counters = set machine.counters n (c - 1); places = places i }

fallen_played : (links : List Link) (seat n : ℕ) (machine : Machine) (stands : List Stand) → machine.places ≡ map place stands → 0 < slice_index machine.counters n
    → played links seat (node_at_zero machine n) (with_fallen seat n machine)
    ≡ record machine { counters = set machine.counters n (slice_index machine.counters n - 1); places = map place (cond (slice_index machine.counters n == 1) (set stands n (stand.Held seat)) stands) }
fallen_played links seat n machine stands are more =
    fallen_is links seat n machine more
    ∙ (λ i. record machine { counters = set machine.counters n (slice_index machine.counters n - 1); places = mapped (slice_index machine.counters n == 1) i })
  where
    mapped : (b : Bool) → cond b (set machine.places n (Held seat true)) machine.places ≡ map place (cond b (set stands n (stand.Held seat)) stands)
    mapped true = ap (λ ps. set ps n (Held seat true)) are ∙ sym (map-set place stands n (stand.Held seat))
    mapped false = are

module _ (links : List Link) (nodes : ℕ) (are : AreLinks nodes links) (seats : ℕ) where
  -- a machine that is consistent behind the fall stays so when the taken node counts as played
  pub played-consistent : (seat n : ℕ) (machine : Machine) → n < length machine.places → length machine.places ≡ nodes → IsConsistent links (with_fallen seat n machine)
      → IsConsistent links (played links seat (node_at_zero machine n) (with_fallen seat n machine)) × (length (played links seat (node_at_zero machine n) (with_fallen seat n machine)).places ≡ nodes)
  played-consistent seat n machine inside size consistent = go (slice_index machine.counters n == 1) refl
    where
      c : ℕ
      c = slice_index machine.counters n

      fallen : Machine
      fallen = with_fallen seat n machine

      long : (b : Bool) → length (if b then set machine.places n (Held seat false) else machine.places) ≡ nodes
      long true = length-set machine.places n (Held seat false) ∙ size
      long false = size

      go : (b : Bool) → (c == 1) ≡ b → IsConsistent links (played links seat (if b then Some n else None) fallen) × (length (played links seat (if b then Some n else None) fallen).places ≡ nodes)
      go true e =
          let hit : ((c - 1) == 0) ≡ true = grind (arith, nat_tests) in
          let here : get_or fallen.places n Waiting ≡ Held seat false =
          ap (λ b. get_or (if b then set machine.places n (Held seat false) else machine.places) n Waiting) hit ∙ get_or-set_same machine.places n (Held seat false) Waiting inside in (
            IsConsistent-moved links nodes are seats fallen (PlayNode seat n) (long ((c - 1) == 0)) consistent here,
            length-moved links fallen (PlayNode seat n) ∙ long ((c - 1) == 0),
          )
      go false e = (consistent, long ((c - 1) == 0))

  -- the same machine, as it is written down
  pub fell : (seat n : ℕ) (machine : Machine) → n < length machine.places → length machine.places ≡ nodes → IsConsistent links (with_fallen seat n machine) → 0 < slice_index machine.counters n
      → IsConsistent links (record machine { counters = set machine.counters n (slice_index machine.counters n - 1); places = cond (slice_index machine.counters n == 1) (set machine.places n (Held seat true)) machine.places })
  fell seat n machine inside size consistent more = subst (IsConsistent links) (fallen_is links seat n machine more) (played-consistent seat n machine inside size consistent).0

-- each allowed step leaves a course
pub behind-is : (course : Course) (s : Step) → IsCourse course → MayStep course s → IsCourse (behind course s)
behind-is course s is may = record {
  few_nodes = omega (arith, is.few_nodes, both.1);
  few_links = is.few_links;
  are_links = subst (λ n. AreLinks n course.links) (sym both.1) is.are_links;
  consistent = both.0;
}
  where
    nodes : ℕ
    nodes = length course.machine.places

    ends : (t : Step) → MayStep course t → IsConsistent course.links (behind course t).machine × (length (behind course t).machine.places ≡ nodes)
    ends (step.Start seat n) m = played-consistent course.links nodes is.are_links course.seats seat n (record course.machine { started = set course.machine.started n true }) m.0 refl
        (IsConsistent-moved course.links nodes is.are_links course.seats course.machine (StartNode seat n) refl is.consistent m)
    ends (step.Release seat l) m = played-consistent course.links nodes is.are_links course.seats seat (link_at course.links l).to (record course.machine { released = set course.machine.released l true })
        (is.are_links.within l no_link m.0) refl (IsConsistent-moved course.links nodes is.are_links course.seats course.machine (ReleaseLink seat l) refl is.consistent m)
    ends (step.Home seat n) m = (
      IsConsistent-moved course.links nodes is.are_links course.seats course.machine (HomeNode seat n) refl is.consistent m,
      length-moved course.links course.machine (HomeNode seat n),
    )

    both : IsConsistent course.links (behind course s).machine × (length (behind course s).machine.places ≡ nodes)
    both = ends s may

module _ (links : List Link) (seats : ℕ) (counters : List ℕ) (started : List Bool) (stands : List Stand) (released : List Bool) (is : IsCourse (course_of links seats counters started stands released)) where
  abbrev old : Course
  old = course_of links seats counters started stands released

  abbrev lowered : ℕ → ℕ → List Bool → List Bool → Course
  lowered seat n started' released' = course_of links seats (set counters n (slice_index counters n - 1)) started' (cond (slice_index counters n == 1) (set stands n (stand.Held seat)) stands) released'

  pub start-is : (seat n : ℕ) → MayStep old (step.Start seat n) → (0 < slice_index counters n) × (behind old (step.Start seat n) ≡ lowered seat n (set started n true) released)
  start-is seat n may =
      let more : 0 < slice_index counters n = start_counts links old.machine is.consistent n may.0 may.3 in
      (more, λ i. record old { machine = fallen_played links seat n (record old.machine { started = set started n true }) stands refl more i })

  pub release-is : (seat l : ℕ) → MayStep old (step.Release seat l)
      → ((link_at links l).to < length stands) × (0 < slice_index counters (link_at links l).to) × (behind old (step.Release seat l) ≡ lowered seat (link_at links l).to started (set released l true))
  release-is seat l may =
      let inside : (link_at links l).to < length old.machine.places = is.are_links.within l no_link may.0 in
      let more : 0 < slice_index counters (link_at links l).to = open_counts links old.machine is.consistent (link_at links l).to l inside may.0 refl may.2 in
      (omega (arith, inside, length-map stands place), more, λ i. record old { machine = fallen_played links seat (link_at links l).to (record old.machine { released = set released l true }) stands refl more i })

  pub home-is : (seat n : ℕ) → behind old (step.Home seat n) ≡ course_of links seats counters started (set stands n stand.Home) released
  home-is seat n = λ i. record old { machine = record old.machine { places = sym (map-set place stands n stand.Home) i } }

map_one : {A B : Type 0} (b : B) (xs : List A) → replicate (length xs) b ≡ map (λ x. b) xs
map_one b [] = refl
map_one b (x ∷ xs) = ap (λ ys. b ∷ ys) (map_one b xs)

replicate-below : {B : Type 0} (n : ℕ) (b : B) → replicate n b ≡ map (λ x. b) (below n)
replicate-below n b = ap (λ k. replicate k b) (sym (length-below n)) ∙ map_one b (below n)

map-replicate : (n : ℕ) (s : Stand) → map place (replicate n s) ≡ replicate n (place s)
map-replicate zero s = refl
map-replicate (suc n) s = ap (λ ps. place s ∷ ps) (map-replicate n s)

pub opening-is : (nodes seats : ℕ) (links links' : List Link) (counters : List ℕ) (started : List Bool) (stands : List Stand) (released : List Bool) → links' ≡ links
    → counters ≡ map (λ n. length (incoming links n) + 1) (below nodes) → started ≡ replicate nodes false → stands ≡ replicate nodes stand.Waiting → released ≡ replicate (length links) false
    → course_of links' seats counters started stands released ≡ opening nodes links seats
opening-is nodes seats links links' counters started stands released is count s p r i = record {
  links = is i;
  seats = seats;
  machine = record {
    counters = count i;
    started = (s ∙ replicate-below nodes false) i;
    places = (ap (map place) p ∙ map-replicate nodes stand.Waiting ∙ replicate-below nodes Waiting) i;
    released = (r ∙ replicate-below (length links) false) i;
  };
}

pub opening-course : (nodes seats : ℕ) (links : List Link) → AreLinks nodes links → nodes ≤ 64 → length links ≤ 512 → IsCourse (opening nodes links seats)
opening-course nodes seats links are few low =
    let long : length (fresh nodes links).places ≡ nodes = length-map_below (λ n. Waiting) nodes in
    record {
      few_nodes = omega (arith, few, long);
      few_links = low;
      are_links = subst (λ n. AreLinks n links) (sym long) are;
      consistent = IsConsistent-fresh nodes links;
    }
