-- A node that a seat holds, before its play and after it.
--     with_started d n, .. with_looked d n      what a seat knows once it started, released, held, brought home, left or looked for this one
--     AreBetween first limit list      all numbers of the list are between these
--     IsUnplayed .. duty node tray      the bench as before the cycle, with the values of its incoming links
--     IsPlayed .. duty node tray      the bench is sequential, and shows the values of the links that are not released
use Rattle.std.specs.Prelude.{◌≡◌, ◌≤◌, ◌<◌, ℕ, Bool, true, false, List, ◌∷◌, length, map, Some, vec_capacity}
use mathlib.Core.Option.{some}
use lib.ListN.{get_elem?}
use Rattle.session_laws.specs.session_model.specs.Activation.{AreLinks, link_at, incoming, place_among}
use Rattle.activation.specs.declared.views.Tray.{Tray}
use Rattle.activation.specs.declared.views.Duty.{Duty}
use Rattle.activation.specs.Rule.{has}
use Rattle.activation.specs.Plays.{without}
use Rattle.activation.specs.Contents.{most_links, Roomed, IsValueOf, IsPlayedAt, AreValuesOf}

abbrev pub with_started : {B : Type 0} → Duty B → ℕ → Duty B
with_started d n = record d { started = n ∷ d.started }

abbrev pub with_released : {B : Type 0} → Duty B → ℕ → Duty B
with_released d l = record d { released = l ∷ d.released }

abbrev pub with_held : {B : Type 0} → Duty B → ℕ → Duty B
with_held d n = record d { held = n ∷ d.held }

abbrev pub with_home : {B : Type 0} → Duty B → ℕ → Duty B
with_home d n = record d { held = without n d.held }

abbrev pub with_left : {B : Type 0} → Duty B → ℕ → Duty B
with_left d n = record d { held = without n d.held; left = n ∷ d.left }

abbrev pub with_looked : {B : Type 0} → Duty B → ℕ → Duty B
with_looked d n = record d { left = without n d.left }

abbrev pub AreBetween : ℕ → ℕ → List ℕ → Type 0
AreBetween first limit list = (n : ℕ) → has list n ≡ true → (first ≤ n) × (n < limit)

module _ {B M Y : Type 0} (memory : B → M) (has_room : B → ℕ → Bool) (value_at : B → ℕ → Y) (after : M → List Y → M) (gives : M → List Y → ℕ → Y) where
  pub record IsUnplayed (duty : Duty B) (node : ℕ) (tray : Tray B Y) : Type 0 where
    pub are : AreLinks (length duty.before) duty.links
    pub held : has duty.held node ≡ true
    pub bench : get_elem? duty.before node ≡ some tray.bench
    pub room : most_links ≤ vec_capacity tray.given
    pub given : AreValuesOf memory has_room after gives duty.links duty.before (incoming duty.links node) tray.given.items
    pub none_released : (l : ℕ) → l < length duty.links → (link_at duty.links l).from ≡ node → has duty.released l ≡ false

  pub record IsPlayed (duty : Duty B) (node : ℕ) (tray : Tray B Y) : Type 0 where
    pub held : has duty.held node ≡ true
    pub old : B
    pub old_is : get_elem? duty.before node ≡ some old
    pub bench : IsPlayedAt memory has_room after gives duty.links duty.before node (memory tray.bench)
    pub room : most_links ≤ vec_capacity tray.given
    pub given : (values : List Y) × (tray.given.items ≡ map Some values) × (length values ≡ length (incoming duty.links node))
    pub rooms : Roomed has_room duty.links node old tray.bench (has duty.released)
    pub shown : (l : ℕ) → l < length duty.links → (link_at duty.links l).from ≡ node → has duty.released l ≡ false → has_room tray.bench (place_among duty.links l) ≡ true
        → IsValueOf memory has_room after gives duty.links duty.before l (value_at tray.bench (place_among duty.links l))
