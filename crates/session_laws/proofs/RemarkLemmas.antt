-- Marks made anew stay as they are.
--     AllClose whole edges      each feedback edge of these closes a loop over the direct edges of the whole
--     AllClose-remark      each feedback edge of `remark edges` closes one
--     remark-remark      marks that were made anew are not changed again
use Rattle.std.proofs.Common.{◌≡◌, ℕ, ◌<◌, Bool, true, false, cond, ◌⊎◌, inl, inr, List, [], ◌∷◌, ◌++◌, Contains, refl, sym, ◌∙◌, ap, subst, arith, true≢false, append_assoc, append-nil}
use Rattle.session_model.specs.jack_types.specs.declared.ports.Mark.{Mark}
use Rattle.session_model.specs.jack_types.specs.declared.ports.Mark.TheVariants.{Direct, Feedback}
use Rattle.session_model.specs.Loops.{direct_links, closes_loop, mark_of, tested_edge, remark_from, remark}
use Rattle.session_model.specs.State.{same_node, Connection, source_node, destination_node, is_direct}
use Rattle.session_laws.proofs.LoopFreeLemmas.{AreAmong, IsPath-among, same_node-is, same_node-self, direct_links-contains, contains-direct_links, Contains-append_cases, Contains-append_left, Contains-append_right}
use Rattle.session_laws.proofs.LoopLemmas.{Contains-later, Contains-first, Contains-cases, Leads-of_leads, leads-of_path}
pub use Rattle.session_laws.specs.LoopFree.{AllClose}

-- more direct links close at least the same loops
closes_loop-among : (edges others : List Connection) → AreAmong (direct_links edges) (direct_links others) → (source destination : List ℕ) → closes_loop edges source destination ≡ true → closes_loop others source destination ≡ true
closes_loop-among edges others among source destination h =
    let w = Leads-of_leads same_node same_node-is same_node-self (direct_links edges) (destination_node destination) (source_node source) h in
    leads-of_path same_node same_node-is same_node-self (direct_links others) (destination_node destination) w.0 (source_node source)
    (IsPath-among (direct_links edges) (direct_links others) among (destination_node destination) w.0 (source_node source) w.1)

none-in : {X : Type 0} {x : X} → Contains [] x → ⊥
none-in h = below h.1
  where
    below : {n : ℕ} → n < 0 → ⊥
    below p = omega arith

-- the tested edge has the direct link of the edge
tested-link : (tested : List Connection) (edge : Connection) (edges : List Connection) → is_direct edge.mark ≡ true → tested_edge tested edge edges ≡ edge
tested-link tested edge edges d = ap (λ b. cond b edge (record edge { mark = mark_of (tested ++ edge ∷ edges) edge.source edge.destination })) d

-- testing an edge takes no direct link away
links_kept : (tested : List Connection) (edge : Connection) (edges : List Connection) → AreAmong (direct_links (tested ++ edge ∷ edges)) (direct_links ((tested ++ tested_edge tested edge edges ∷ []) ++ edges))
links_kept tested edge edges x h =
    let w = direct_links-contains (tested ++ edge ∷ edges) x h in
    subst (λ l. Contains (direct_links ((tested ++ tested_edge tested edge edges ∷ []) ++ edges)) l) w.3
    (contains-direct_links ((tested ++ tested_edge tested edge edges ∷ []) ++ edges) w.0 (place w.0 w.2 (Contains-append_cases tested (edge ∷ edges) w.0 w.1)) w.2)
  where
    at_edge : (f : Connection) → is_direct f.mark ≡ true → edge ≡ f → Contains ((tested ++ tested_edge tested edge edges ∷ []) ++ edges) f
    at_edge f d e =
        let direct : is_direct edge.mark ≡ true = subst (λ (g : Connection). is_direct g.mark ≡ true) (sym e) d in
        subst (λ g. Contains ((tested ++ tested_edge tested edge edges ∷ []) ++ edges) g) (tested-link tested edge edges direct ∙ e)
        (Contains-append_left (tested ++ tested_edge tested edge edges ∷ []) edges (tested_edge tested edge edges)
        (Contains-append_right tested (tested_edge tested edge edges ∷ []) (tested_edge tested edge edges) (Contains-first (tested_edge tested edge edges) [])))

    behind : (f : Connection) → is_direct f.mark ≡ true → (edge ≡ f) ⊎ Contains edges f → Contains ((tested ++ tested_edge tested edge edges ∷ []) ++ edges) f
    behind f d (inl e) = at_edge f d e
    behind f d (inr m) = Contains-append_right (tested ++ tested_edge tested edge edges ∷ []) edges f m

    place : (f : Connection) → is_direct f.mark ≡ true → Contains tested f ⊎ Contains (edge ∷ edges) f → Contains ((tested ++ tested_edge tested edge edges ∷ []) ++ edges) f
    place f d (inl m) = Contains-append_left (tested ++ tested_edge tested edge edges ∷ []) edges f (Contains-append_left tested (tested_edge tested edge edges ∷ []) f m)
    place f d (inr m) = behind f d (Contains-cases edge f edges m)

-- where the tested edge stays feedback, the edge closes a loop
tested-closes : (tested : List Connection) (edge : Connection) (edges : List Connection) → is_direct (tested_edge tested edge edges).mark ≡ false → closes_loop (tested ++ edge ∷ edges) (tested_edge tested edge edges).source (tested_edge tested edge edges).destination ≡ true
tested-closes tested edge edges = go (is_direct edge.mark) refl
  where
    marked : (b : Bool) → is_direct (cond b Feedback Direct) ≡ false → b ≡ true
    marked true p = refl
    marked false p = absurd (true≢false p)

    at_edge : (b : Bool) → Connection
    at_edge b = cond b edge (record edge { mark = mark_of (tested ++ edge ∷ edges) edge.source edge.destination })

    go : (b : Bool) → is_direct edge.mark ≡ b → is_direct (cond b edge (record edge { mark = mark_of (tested ++ edge ∷ edges) edge.source edge.destination })).mark ≡ false
        → closes_loop (tested ++ edge ∷ edges) (cond b edge (record edge { mark = mark_of (tested ++ edge ∷ edges) edge.source edge.destination })).source (cond b edge (record edge { mark = mark_of (tested ++ edge ∷ edges) edge.source edge.destination })).destination ≡ true
    go true d p = absurd (true≢false (sym d ∙ p))
    go false d p = marked (closes_loop (tested ++ edge ∷ edges) edge.source edge.destination) p

AllClose-remark_from : (tested edges : List Connection) → AllClose (tested ++ edges) tested → AllClose (remark_from tested edges) (remark_from tested edges)
AllClose-remark_from tested [] close = subst (λ whole. AllClose whole tested) (append-nil tested) close
AllClose-remark_from tested (edge ∷ edges) close = AllClose-remark_from (tested ++ tested_edge tested edge edges ∷ []) edges still
  where
    at_tested : (f : Connection) → (tested_edge tested edge edges ≡ f) ⊎ Contains [] f → is_direct f.mark ≡ false → closes_loop (tested ++ edge ∷ edges) f.source f.destination ≡ true
    at_tested f (inl e) p = subst (λ (g : Connection). is_direct g.mark ≡ false → closes_loop (tested ++ edge ∷ edges) g.source g.destination ≡ true) e (tested-closes tested edge edges) p
    at_tested f (inr m) p = absurd (none-in m)

    closes : (f : Connection) → Contains tested f ⊎ Contains (tested_edge tested edge edges ∷ []) f → is_direct f.mark ≡ false → closes_loop (tested ++ edge ∷ edges) f.source f.destination ≡ true
    closes f (inl m) p = close f m p
    closes f (inr m) p = at_tested f (Contains-cases (tested_edge tested edge edges) f [] m) p

    still : AllClose ((tested ++ tested_edge tested edge edges ∷ []) ++ edges) (tested ++ tested_edge tested edge edges ∷ [])
    still f m p = closes_loop-among (tested ++ edge ∷ edges) ((tested ++ tested_edge tested edge edges ∷ []) ++ edges) (links_kept tested edge edges) f.source f.destination
        (closes f (Contains-append_cases tested (tested_edge tested edge edges ∷ []) f m) p)

pub AllClose-remark : (edges : List Connection) → AllClose (remark edges) (remark edges)
AllClose-remark edges = AllClose-remark_from [] edges (λ f m p. absurd (none-in m))

-- an edge that is feedback and closes a loop stays as it is
tested-stays : (tested : List Connection) (edge : Connection) (edges : List Connection) → (is_direct edge.mark ≡ false → closes_loop (tested ++ edge ∷ edges) edge.source edge.destination ≡ true) → tested_edge tested edge edges ≡ edge
tested-stays tested edge edges close = go (is_direct edge.mark) refl
  where
    feedback : (m : Mark) → is_direct m ≡ false → Feedback ≡ m
    feedback Direct p = absurd (true≢false p)
    feedback Feedback p = refl

    go : (b : Bool) → is_direct edge.mark ≡ b → cond b edge (record edge { mark = mark_of (tested ++ edge ∷ edges) edge.source edge.destination }) ≡ edge
    go true d = refl
    go false d = ap (λ m. record edge { mark = m }) (ap (λ b. cond b Feedback Direct) (close d) ∙ feedback edge.mark d)

remark_from-stays : (tested edges : List Connection) → AllClose (tested ++ edges) edges → remark_from tested edges ≡ tested ++ edges
remark_from-stays tested [] close = sym (append-nil tested)
remark_from-stays tested (edge ∷ edges) close =
    ap (λ e. remark_from (tested ++ e ∷ []) edges) stays
    ∙ remark_from-stays (tested ++ edge ∷ []) edges (λ f m p. subst (λ whole. closes_loop whole f.source f.destination ≡ true) (sym moved) (close f (Contains-later edge f edges m) p))
    ∙ moved
  where
    moved : (tested ++ edge ∷ []) ++ edges ≡ tested ++ edge ∷ edges
    moved = append_assoc tested (edge ∷ []) edges

    stays : tested_edge tested edge edges ≡ edge
    stays = tested-stays tested edge edges (close edge (Contains-first edge edges))

pub remark-remark : (edges : List Connection) → remark (remark edges) ≡ remark edges
remark-remark edges = remark_from-stays [] (remark edges) (AllClose-remark edges)
