-- All lines of a rehearsal, from its parts.
--     assembled      what each part adds is what all of them are
use Rattle.std.proofs.Common.{◌≡◌, ℕ, List, [], ◌∷◌, ◌++◌, Result, Ok, Err, ◌∙◌, ap, ap₂, append_assoc}
use Rattle.std.specs.Prelude.{IfOk}
use Rattle.jack_types.specs.declared.scripts.Body.{Body}
use Rattle.jack_types.specs.declared.scripts.Body.TheVariants.{Run}
use Rattle.rand_pcg.specs.Lcg.{Lcg}
use Rattle.rehearsal_laws.specs.Lines.{Adds, capture_line, end_lines, lines_drawn}
use Rattle.rehearsal_model.specs.Rehearsals.{Drawn, any_line, chain_line, client_lines, draw, drawn, lane_lines}

-- the same over any turns and counts
abbrev all_of : (clients chain others lanes : Lcg → Drawn (List Body)) → Lcg → Drawn (List Body)
all_of clients chain others lanes g =
    let a = clients g in
    let b = chain a.1 in
    let c = others b.1 in
    let last = draw 32 c.1 in
    let d = lanes last.1 in
    (a.0 ++ (capture_line ∷ []) ++ b.0 ++ c.0 ++ end_lines last.0 ++ Run 10000 ∷ d.0, d.1)

assemble : (clients chain others lanes : Lcg → Drawn (List Body)) (g g1 g2 g3 g4 g5 : Lcg) (last : ℕ) (l1 l2 l3 l4 l5 l6 l7 : List Body)
    → Adds [] g (clients g) l1 g1 → l2 ≡ l1 ++ capture_line ∷ [] → Adds l2 g1 (chain g1) l3 g2 → Adds l3 g2 (others g2) l4 g3
    → last ≡ (draw 32 g3).0 → g4 ≡ (draw 32 g3).1 → l5 ≡ l4 ++ end_lines last → l6 ≡ l5 ++ Run 10000 ∷ [] → Adds l6 g4 (lanes g4) l7 g5
    → Adds [] g (all_of clients chain others lanes g) l7 g5
assemble clients chain others lanes g g1 g2 g3 g4 g5 last l1 l2 l3 l4 l5 l6 l7 a at b c drawn-last behind ends run d =
    let e1 : g1 ≡ (clients g).1 = a.generator in
    let e2 : g2 ≡ (chain (clients g).1).1 = b.generator ∙ ap (λ h. (chain h).1) e1 in
    let e3 : g3 ≡ (others (chain (clients g).1).1).1 = c.generator ∙ ap (λ h. (others h).1) e2 in
    let e4 : g4 ≡ (draw 32 (others (chain (clients g).1).1).1).1 = behind ∙ ap (λ h. (draw 32 h).1) e3 in
    let f3 : l3 ≡ (clients g).0 ++ (capture_line ∷ []) ++ (chain (clients g).1).0 = b.items ∙ ap₂ (λ (xs : List Body) h. xs ++ (chain h).0) (at ∙ ap (λ (xs : List Body). xs ++ capture_line ∷ []) a.items) e1 in
    let f4 : l4 ≡ (clients g).0 ++ (capture_line ∷ []) ++ (chain (clients g).1).0 ++ (others (chain (clients g).1).1).0 = c.items ∙ ap₂ (λ (xs : List Body) h. xs ++ (others h).0) f3 e2 in
    let f6 : l6 ≡ ((clients g).0 ++ (capture_line ∷ []) ++ (chain (clients g).1).0 ++ (others (chain (clients g).1).1).0 ++ end_lines (draw 32 (others (chain (clients g).1).1).1).0) ++ Run 10000 ∷ [] =
    run ∙ ap (λ (xs : List Body). xs ++ Run 10000 ∷ []) (ends ∙ ap₂ (λ (xs : List Body) n. xs ++ end_lines n) f4 (drawn-last ∙ ap (λ h. (draw 32 h).0) e3)) in
    record {
      items =
          d.items ∙ ap₂ (λ (xs : List Body) h. xs ++ (lanes h).0) f6 e4
          ∙ append_assoc ((clients g).0 ++ (capture_line ∷ []) ++ (chain (clients g).1).0 ++ (others (chain (clients g).1).1).0 ++ end_lines (draw 32 (others (chain (clients g).1).1).1).0) (Run 10000 ∷ []) (lanes (draw 32 (others (chain (clients g).1).1).1).1).0;
      generator = d.generator ∙ ap (λ h. (lanes h).1) e4;
    }

pub assembled : (g g1 g2 g3 g4 g5 : Lcg) (last : ℕ) (l1 l2 l3 l4 l5 l6 l7 : List Body)
    → Adds [] g (drawn client_lines 32 0 g) l1 g1 → l2 ≡ l1 ++ capture_line ∷ [] → Adds l2 g1 (drawn chain_line 31 1 g1) l3 g2 → Adds l3 g2 (drawn any_line 32 0 g2) l4 g3
    → last ≡ (draw 32 g3).0 → g4 ≡ (draw 32 g3).1 → l5 ≡ l4 ++ end_lines last → l6 ≡ l5 ++ Run 10000 ∷ [] → Adds l6 g4 (drawn lane_lines 32 0 g4) l7 g5
    → Adds [] g (lines_drawn g) l7 g5
unfolding lines_drawn
assembled = assemble (drawn client_lines 32 0) (drawn chain_line 31 1) (drawn any_line 32 0) (drawn lane_lines 32 0)

-- six lines, one behind the other
pub six : (old : List Body) (a b c d e f : Body) → old ++ a ∷ [] ++ b ∷ [] ++ c ∷ [] ++ d ∷ [] ++ e ∷ [] ++ f ∷ [] ≡ old ++ a ∷ b ∷ c ∷ d ∷ e ∷ f ∷ []
six old a b c d e f = simp append_assoc

-- what holds holds also where an answer is Ok
pub if_ok : {T E : Type 0} (result : Result T E) {P : Type 0} → P → IfOk result (λ x. P)
if_ok (Ok x) holds = holds
if_ok (Err e) holds = tt
