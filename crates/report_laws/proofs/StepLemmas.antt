-- One line more.
--     same-lines      texts are those of one list of lines at most
--     same-place      texts lead to one place at most
--     more-read, read-more      one text more is read exactly where it is a line that may come
use Rattle.std.proofs.Common.{◌≡◌, ℕ, List, [], ◌∷◌, ◌++◌, map, Some, refl, sym, ◌∙◌, ap, ap₂, subst}
use Rattle.std.proofs.lemmas.List.{map-append}
use Rattle.session_model.specs.Scripts.{Script}
use Rattle.session_laws.proofs.ListLemmas.{Each, Each-append, slice-some}
use Rattle.session_laws.proofs.SerialLossLemmas.{All-from_each}
use Rattle.report_reader.specs.check_laws.proofs.SameLemmas.{Each-from_all}
use Rattle.report_reader.proofs.LineLemmas.{same-line}
use Rattle.report_reader.proofs.RowLemmas.{Each-split}
use Rattle.report_reader.specs.Forms.{IsLineForm, line_text}
use Rattle.report_reader.specs.declared.rows.Line.{Line}
use Rattle.report_laws.specs.Places.{IsRead, limits_of, next, walk}
use Rattle.report_laws.specs.declared.places.Place.{Place}
use Rattle.report_laws.specs.declared.places.Place.TheVariants.{Start}
use Rattle.report_laws.proofs.WalkLemmas.{walk-more}

module _ {X : Type 0} where
  head-same : (x y : X) (xs ys : List X) → x ∷ xs ≡ y ∷ ys → x ≡ y
  head-same x y xs ys e = cc

  tail-same : (x y : X) (xs ys : List X) → x ∷ xs ≡ y ∷ ys → xs ≡ ys
  tail-same x y xs ys e = cc

  nil-cons : (x : X) (xs : List X) → [] ≡ x ∷ xs → ⊥
  nil-cons x xs e = cc

pub same-lines : (xs ys : List Line) → Each IsLineForm xs → Each IsLineForm ys → map line_text xs ≡ map line_text ys → xs ≡ ys
same-lines [] [] g h e = refl
same-lines [] (y ∷ ys) g h e = absurd (nil-cons (line_text y) (map line_text ys) e)
same-lines (x ∷ xs) [] g h e = absurd (nil-cons (line_text x) (map line_text xs) (sym e))
same-lines (x ∷ xs) (y ∷ ys) g h e =
    ap₂ (λ (z : Line) (zs : List Line). z ∷ zs) (same-line x y g.0 h.0 (head-same (line_text x) (line_text y) (map line_text xs) (map line_text ys) e))
    (same-lines xs ys g.1 h.1 (tail-same (line_text x) (line_text y) (map line_text xs) (map line_text ys) e))

record Parted (lines : List Line) (texts : List (List ℕ)) (text : List ℕ) : Type 0 where
  pub front : List Line
  pub last : Line
  pub lines_are : lines ≡ front ++ last ∷ []
  pub texts_are : map line_text front ≡ texts
  pub text_is : line_text last ≡ text

part : (lines : List Line) (texts : List (List ℕ)) (text : List ℕ) → map line_text lines ≡ texts ++ text ∷ [] → Parted lines texts text
part [] [] text e = absurd (nil-cons text [] e)
part [] (t ∷ texts) text e = absurd (nil-cons t (texts ++ text ∷ []) e)
part (x ∷ []) [] text e = record { front = []; last = x; lines_are = refl; texts_are = refl; text_is = head-same (line_text x) text [] [] e }
part (x ∷ y ∷ lines) [] text e = absurd (nil-cons (line_text y) (map line_text lines) (sym (tail-same (line_text x) text (line_text y ∷ map line_text lines) [] e)))
part (x ∷ lines) (t ∷ texts) text e =
    let r = part lines texts text (tail-same (line_text x) t (map line_text lines) (texts ++ text ∷ []) e) in
    record {
      front = x ∷ r.front;
      last = r.last;
      lines_are = ap (λ (ys : List Line). x ∷ ys) r.lines_are;
      texts_are = ap₂ (λ (y : List ℕ) (ys : List (List ℕ)). y ∷ ys) (head-same (line_text x) t (map line_text lines) (texts ++ text ∷ []) e) r.texts_are;
      text_is = r.text_is;
    }

module _ (script : Script) where
  pub same-place : (texts : List (List ℕ)) (one two : Place) → IsRead script texts one → IsRead script texts two → one ≡ two
  same-place texts one two a b =
      let same : a.0 ≡ b.0 = same-lines a.0 b.0 (Each-from_all IsLineForm a.0 a.1) (Each-from_all IsLineForm b.0 b.1) (sym a.2 ∙ b.2) in
      slice-some one two (sym a.3 ∙ ap (walk (limits_of script) Start) same ∙ b.3)

  pub more-read : (texts : List (List ℕ)) (place : Place) → IsRead script texts place → (text : List ℕ) (behind : Place) → IsRead script (texts ++ text ∷ []) behind
      → (read : Line) × IsLineForm read × (text ≡ line_text read) × (next (limits_of script) place read ≡ Some behind)
  more-read texts place it text behind that =
      let r = part that.0 texts text (sym that.2) in
      let form = Each-split IsLineForm r.front (r.last ∷ []) (subst (Each IsLineForm) r.lines_are (Each-from_all IsLineForm that.0 that.1)) in
      let same : r.front ≡ it.0 = same-lines r.front it.0 form.0 (Each-from_all IsLineForm it.0 it.1) (r.texts_are ∙ it.2) in
      let there : walk (limits_of script) Start r.front ≡ Some place = ap (walk (limits_of script) Start) same ∙ it.3 in (
        r.last,
        form.1.0,
        sym r.text_is,
        sym (walk-more (limits_of script) Start place r.front r.last there) ∙ sym (ap (walk (limits_of script) Start) r.lines_are) ∙ that.3,
      )

  pub read-more : (texts : List (List ℕ)) (place : Place) → IsRead script texts place → (text : List ℕ) (behind : Place)
      → (read : Line) × IsLineForm read × (text ≡ line_text read) × (next (limits_of script) place read ≡ Some behind) → IsRead script (texts ++ text ∷ []) behind
  read-more texts place it text behind one = (
    it.0 ++ one.0 ∷ [],
    All-from_each IsLineForm (it.0 ++ one.0 ∷ []) (Each-append IsLineForm it.0 (one.0 ∷ []) (Each-from_all IsLineForm it.0 it.1) (one.1, tt)),
    ap₂ (λ (ts : List (List ℕ)) (t : List ℕ). ts ++ t ∷ []) it.2 one.2 ∙ sym (map-append line_text it.0 (one.0 ∷ [])),
    walk-more (limits_of script) Start place it.0 one.0 it.3 ∙ one.3,
  )
