-- The bytes under a name, among the entries of a map in memory.
use Rattle.std.proofs.Common.{◌≡◌, ℕ, List, [], ◌∷◌, ap, Some, ◌∙◌, string_bytes, cond, true, false, refl, Bool, IsTrue}
use Rattle.std.specs.Ordering.{nat_cmp}
use Rattle.std.specs.String.{string_cmp}
use Rattle.std.specs.Option.{option_map, option_map_or}
use Rattle.std.specs.declared.option.Option.{Option}
use Rattle.std.specs.declared.string.String.{String}
use Rattle.std.specs.declared.vec.Vec.{Vec}
use Rattle.std.specs.declared.alloc.Global.{Global}
use Rattle.std.specs.BTreeMap.{BTreeMap, get_by_text, UpdatesBy, is_at}
use Rattle.std.specs.Map.{lookup}
use Rattle.std.specs.Str.{bytes_eq}
use Rattle.std.specs.Cmp.Lexicographic.{slice_cmp}
use Rattle.std.proofs.lemmas.Slice.Eq.{bytes_eq-Decides}
use Rattle.std.proofs.lemmas.Map.Text.{is_eq-slice_cmp, btree_map_updates_text}
use Rattle.jack_host.specs.Files.{bytes_under}
use Rattle.host_memory.specs.Listed.{listed, refused_under, closing_refused_under}
use Rattle.host_memory.specs.declared.refusals.Refusals.{Refusals}

-- the bytes of a map's value
abbrev pub items_of : Option (Vec ℕ Global) → Option (List ℕ)
items_of o = option_map (λ v. v.items) o

items_of-cond : (b : Bool) (v : Vec ℕ Global) (o : Option (Vec ℕ Global)) → cond b (Some v.items) (items_of o) ≡ items_of (cond b (Some v) o)
items_of-cond true v o = refl
items_of-cond false v o = refl

pub bytes_under_listed : (es : List (String Global × Vec ℕ Global)) (name : List ℕ) → bytes_under (listed es) name ≡ items_of (lookup (is_at (λ k. slice_cmp nat_cmp name (string_bytes k))) es)
bytes_under_listed [] name = refl
bytes_under_listed (e ∷ es) name = rw (is_eq-slice_cmp name (string_bytes e.0), bytes_under_listed es name) (items_of-cond (bytes_eq name (string_bytes e.0)) e.1 _)

items_of_cond_maybe : (b : Bool) (w o : Option (Vec ℕ Global)) → items_of (cond b w o) ≡ cond b (items_of w) (items_of o)
items_of_cond_maybe true w o = refl
items_of_cond_maybe false w o = refl

-- a change of the map under one name
pub bytes_under_updates : (name : List ℕ) (m n : BTreeMap (String Global) (Vec ℕ Global)) (w : Option (Vec ℕ Global))
    → UpdatesBy string_cmp (λ k. slice_cmp nat_cmp name (string_bytes k)) m n w
    → (other : List ℕ) → bytes_under (listed n.entries) other ≡ cond (bytes_eq name other) (items_of w) (bytes_under (listed m.entries) other)
bytes_under_updates name m n w updates other =
    rw (bytes_under_listed n.entries other, bytes_under_listed m.entries other, btree_map_updates_text name m n w updates other)
    (items_of_cond_maybe (bytes_eq name other) w (get_by_text m other))

-- what one entry of the refusals gives, after a change under one name
abbrev pub calls_of : Option Refusals → List ℕ
calls_of o = option_map_or (λ r. r.calls.items) o []

abbrev pub closing_of : Option Refusals → Bool
closing_of o = option_map_or (λ r. r.closing) o false

calls_of-cond : (b : Bool) (w o : Option Refusals) → calls_of (cond b w o) ≡ cond b (calls_of w) (calls_of o)
calls_of-cond true w o = refl
calls_of-cond false w o = refl

closing_of-cond : (b : Bool) (w o : Option Refusals) → closing_of (cond b w o) ≡ cond b (closing_of w) (closing_of o)
closing_of-cond true w o = refl
closing_of-cond false w o = refl

pub refused_under_updates : (name : List ℕ) (m n : BTreeMap (String Global) Refusals) (w : Option Refusals)
    → UpdatesBy string_cmp (λ k. slice_cmp nat_cmp name (string_bytes k)) m n w
    → (other : List ℕ) → refused_under n other ≡ cond (bytes_eq name other) (calls_of w) (refused_under m other)
refused_under_updates name m n w updates other =
    rw (btree_map_updates_text name m n w updates other) (calls_of-cond (bytes_eq name other) w (get_by_text m other))

pub closing_refused_under_updates : (name : List ℕ) (m n : BTreeMap (String Global) Refusals) (w : Option Refusals)
    → UpdatesBy string_cmp (λ k. slice_cmp nat_cmp name (string_bytes k)) m n w
    → (other : List ℕ) → closing_refused_under n other ≡ cond (bytes_eq name other) (closing_of w) (closing_refused_under m other)
closing_refused_under_updates name m n w updates other =
    rw (btree_map_updates_text name m n w updates other) (closing_of-cond (bytes_eq name other) w (get_by_text m other))

same_when : {A : Type 0} (b : Bool) {x y : A} → (IsTrue b → x ≡ y) → cond b x y ≡ y
same_when true e = e refl
same_when false e = refl

-- what is the same at one name is the same at every name
pub same_at : {A : Type 0} (name other : List ℕ) (f : List ℕ → A) (x : A) → x ≡ f name → cond (bytes_eq name other) x (f other) ≡ f other
same_at name other f x e = same_when (bytes_eq name other) (λ t. e ∙ ap f ((bytes_eq-Decides name other).0 t))

-- a change of an entry that keeps its calls keeps them under every name
pub calls_stay : (name : List ℕ) (m n : BTreeMap (String Global) Refusals) (w : Option Refusals)
    → UpdatesBy string_cmp (λ k. slice_cmp nat_cmp name (string_bytes k)) m n w
    → calls_of w ≡ calls_of (get_by_text m name) → (other : List ℕ) → refused_under n other ≡ refused_under m other
calls_stay name m n w updates e other = refused_under_updates name m n w updates other ∙ same_at name other (refused_under m) (calls_of w) e

-- a change of an entry that keeps whether its closing fails keeps it under every name
pub closings_stay : (name : List ℕ) (m n : BTreeMap (String Global) Refusals) (w : Option Refusals)
    → UpdatesBy string_cmp (λ k. slice_cmp nat_cmp name (string_bytes k)) m n w
    → closing_of w ≡ closing_of (get_by_text m name) → (other : List ℕ) → closing_refused_under n other ≡ closing_refused_under m other
closings_stay name m n w updates e other = closing_refused_under_updates name m n w updates other ∙ same_at name other (closing_refused_under m) (closing_of w) e

-- a change under one name keeps the calls of the others
pub other_calls_stay : (name : List ℕ) (m n : BTreeMap (String Global) Refusals) (w : Option Refusals)
    → UpdatesBy string_cmp (λ k. slice_cmp nat_cmp name (string_bytes k)) m n w
    → (other : List ℕ) → bytes_eq name other ≡ false → refused_under n other ≡ refused_under m other
other_calls_stay name m n w updates other e = rw (refused_under_updates name m n w updates other, e) refl

-- a change under one name keeps whether the closing fails for the others
pub other_closings_stay : (name : List ℕ) (m n : BTreeMap (String Global) Refusals) (w : Option Refusals)
    → UpdatesBy string_cmp (λ k. slice_cmp nat_cmp name (string_bytes k)) m n w
    → (other : List ℕ) → bytes_eq name other ≡ false → closing_refused_under n other ≡ closing_refused_under m other
other_closings_stay name m n w updates other e = rw (closing_refused_under_updates name m n w updates other, e) refl
