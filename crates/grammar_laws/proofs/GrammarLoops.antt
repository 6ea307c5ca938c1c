-- The body's lines, one behind the other.
use Rattle.std.proofs.Common.{◌≡◌, ℕ, zero, suc, List, [], ◌∷◌, ◌++◌, map, take, Option, Some, None, Result, Ok, Err, refl, sym, ap, subst, ◌∙◌, append_assoc}
use Rattle.std.specs.Prelude.{slice_get}
use Rattle.std.proofs.lemmas.List.{append-nil}
use Rattle.session_laws.specs.jack_types.specs.declared.scripts.Body.{Body}
use Rattle.session_laws.specs.jack_types.specs.declared.scripts.Cause.{Cause}
use Rattle.session_laws.specs.jack_types.specs.declared.scripts.Header.{Header}
use Rattle.session_laws.specs.session_model.specs.Grammar.{FillAll, LinesFill, body_slots, IsBody}
use Rattle.session_laws.specs.session_model.specs.Reading.{whole, body_line, passed_limit, body_limits, body_of, unless, at_line, body_lines}
use Rattle.session_laws.specs.session_model.specs.Texts.{Line}
use Rattle.grammar_laws.proofs.GrammarReaders.{bind_ok, ok_is, Takes, Takes-all, Takes-from_all}
use Rattle.grammar_laws.proofs.GrammarBodies.{whole-ok, body_line-reads}
use Rattle.grammar_laws.proofs.GrammarLimits.{Limits, Limits-front, Limits-more, passed-none}

unless-ok : {X : Type 0} (o : Option Cause) (x y : X) → unless o x ≡ Ok y → (o ≡ None) × (x ≡ y)
unless-ok None x y e = (refl, ok_is x y e)
unless-ok (Some cause) x y e = absurd cc

body_of-takes : (header : Header) (earlier : List Body) (words : List (List ℕ)) (body : Body) → body_of header earlier words ≡ Ok body → FillAll words (body_slots body) × IsBody header earlier body × (passed_limit (body_limits header earlier body) ≡ None)
body_of-takes header earlier words body e =
    let y = bind_ok (body_line header earlier words) _ body e in
    let x = bind_ok (whole y.0) _ body y.2 in
    let t = (body_line-reads header earlier).takes words y.0 y.1 in
    let w = whole-ok y.0 x.0 x.1 in
    let u = unless-ok (passed_limit (body_limits header earlier x.0)) x.0 body x.2 in
    let filled = Takes-all (body_slots y.0.0) words (subst (λ (rest : List (List ℕ)). Takes (body_slots y.0.0) words rest) w.0 t.0) in
    subst (λ (b : Body). FillAll words (body_slots b) × IsBody header earlier b × (passed_limit (body_limits header earlier b) ≡ None)) u.1
    (subst (λ (b : Body). FillAll words (body_slots b) × IsBody header earlier b × (passed_limit (body_limits header earlier x.0) ≡ None)) w.1 (filled, t.1, u.0))

body_of-again : (header : Header) (earlier : List Body) (words : List (List ℕ)) (body : Body) → FillAll words (body_slots body) → IsBody header earlier body → passed_limit (body_limits header earlier body) ≡ None → body_of header earlier words ≡ Ok body
body_of-again header earlier words body p g none = rw ((body_line-reads header earlier).again words body [] (Takes-from_all (body_slots body) words p) g, none) refl

at_line-body : (n : ℕ) (r : Result Body Cause) (x : Body) → at_line n r ≡ Ok x → r ≡ Ok x
at_line-body n (Ok y) x e = ap (λ (z : Body). Ok z) (ok_is y x e)
at_line-body n (Err c) x e = absurd cc

-- each line is good behind those before it
abbrev pub AreBodies : Header → List Body → List Body → Type 0
AreBodies header earlier [] = Unit {0}
AreBodies header earlier (body ∷ bodies) = IsBody header earlier body × AreBodies header (earlier ++ body ∷ []) bodies

pub body_lines-take : (header : Header) (earlier : List Body) (lines : List Line) (all : List Body) → Limits header earlier → body_lines header earlier lines ≡ Ok all
    → (new : List Body) × (all ≡ earlier ++ new) × LinesFill lines (map body_slots new) × AreBodies header earlier new × Limits header all
body_lines-take header earlier [] all l e =
    let same : earlier ≡ all = ok_is earlier all e in
    ([], sym same ∙ sym (append-nil earlier), tt, tt, subst (λ (xs : List Body). Limits header xs) same l)
body_lines-take header earlier (line ∷ lines) all l e =
    let body = bind_ok (at_line line.number (body_of header earlier line.words)) _ all e in
    let t = body_of-takes header earlier line.words body.0 (at_line-body line.number (body_of header earlier line.words) body.0 body.1) in
    let later = body_lines-take header (earlier ++ body.0 ∷ []) lines all (Limits-more header earlier body.0 l t.2) body.2 in
    (body.0 ∷ later.0, later.1 ∙ append_assoc earlier (body.0 ∷ []) later.0, (t.0, later.2), (t.1, later.3), later.4)

pub body_lines-again : (header : Header) (earlier : List Body) (lines : List Line) (new : List Body) → LinesFill lines (map body_slots new) → AreBodies header earlier new → Limits header (earlier ++ new) → body_lines header earlier lines ≡ Ok (earlier ++ new)
body_lines-again header earlier [] [] p g l = ap (λ (xs : List Body). Ok xs) (sym (append-nil earlier))
body_lines-again header earlier [] (body ∷ new) p g l = absurd p
body_lines-again header earlier (line ∷ lines) [] p g l = absurd p
body_lines-again header earlier (line ∷ lines) (body ∷ new) p g l =
    let regrouped : (earlier ++ body ∷ []) ++ new ≡ earlier ++ body ∷ new = append_assoc earlier (body ∷ []) new in
    let l2 : Limits header ((earlier ++ body ∷ []) ++ new) = subst (λ (xs : List Body). Limits header xs) (sym regrouped) l in
    let one = Limits-front header (earlier ++ body ∷ []) new l2 in
    rw (body_of-again header earlier line.words body p.0 g.0 (passed-none header earlier body one)) (body_lines-again header (earlier ++ body ∷ []) lines new p.1 g.1 l2 ∙ ap (λ (xs : List Body). Ok xs) regrouped)

-- the same by places
pub bodies-at : (header : Header) (earlier : List Body) (bodies : List Body) → AreBodies header earlier bodies → (i : ℕ) (body : Body) → slice_get bodies i ≡ Some body → IsBody header (earlier ++ take i bodies) body
bodies-at header earlier [] h i body e = absurd cc
bodies-at header earlier (first ∷ bodies) h zero body e =
    let same : first ≡ body = cc in
    rw (append-nil earlier) (subst (λ (b : Body). IsBody header earlier b) same h.0)
bodies-at header earlier (first ∷ bodies) h (suc i) body e =
    subst (λ (xs : List Body). IsBody header xs body) (append_assoc earlier (first ∷ []) (take i bodies)) (bodies-at header (earlier ++ first ∷ []) bodies h.1 i body e)

pub bodies-from : (header : Header) (earlier : List Body) (bodies : List Body) → ((i : ℕ) (body : Body) → slice_get bodies i ≡ Some body → IsBody header (earlier ++ take i bodies) body) → AreBodies header earlier bodies
bodies-from header earlier [] h = tt
bodies-from header earlier (first ∷ bodies) h =
    let here : IsBody header earlier first = subst (λ (xs : List Body). IsBody header xs first) (append-nil earlier) (h zero first refl) in
    (here, bodies-from header (earlier ++ first ∷ []) bodies (λ i body e. subst (λ (xs : List Body). IsBody header xs body) (sym (append_assoc earlier (first ∷ []) (take i bodies))) (h (suc i) body e)))
