-- A node that a seat holds stays as it is while the seat does other steps.
--     unplayed_low      it is one of the nodes
--     unplayed_stays, unplayed_same, played_stays      before its play, and after it
--     unplayed_at_taken, unplayed_at_released      a link of another node is released
--     has_room_at      a link of a played node that is not released has room at its place
use Rattle.std.proofs.Common.{◌≡◌, ◌≢◌, ◌<◌, ℕ, Bool, true, false, cond, List, length, refl, sym, ◌∙◌, ap, subst}
use mathlib.Core.Option.{some}
use lib.ListN.{get_elem?}
use Rattle.table_lemmas.proofs.Readings.{inside}
use Rattle.session_laws.specs.jack_types.specs.declared.ports.Link.{Link}
use Rattle.session_laws.specs.session_model.specs.Activation.{link_at, place_among}
use Rattle.activation.specs.declared.views.Tray.{Tray}
use Rattle.activation.specs.declared.views.Duty.{Duty}
use Rattle.activation.specs.Rule.{has}
use Rattle.activation.specs.Takens.{IsUnplayed, IsPlayed, with_released, with_held}
use Rattle.activation.proofs.Testing.{has_skip, has_there}

module _ {B M Y : Type 0} (memory : B → M) (has_room : B → ℕ → Bool) (value_at : B → ℕ → Y) (after : M → List Y → M) (gives : M → List Y → ℕ → Y) where
  pub unplayed_low : (duty : Duty B) (node : ℕ) (tray : Tray B Y) → IsUnplayed memory has_room value_at after gives duty node tray → node < length duty.before
  unplayed_low duty node tray u = inside duty.before node tray.bench u.bench

  pub unplayed_stays : (old new : Duty B) (node : ℕ) (tray : Tray B Y) → new.links ≡ old.links → new.before ≡ old.before → (has old.held node ≡ true → has new.held node ≡ true)
      → ((l : ℕ) → l < length old.links → (link_at old.links l).from ≡ node → has old.released l ≡ false → has new.released l ≡ false) → IsUnplayed memory has_room value_at after gives old node tray → IsUnplayed memory has_room value_at after gives new node tray
  unplayed_stays old new node tray links before held released u =
      subst (λ (x : List Link × List B). IsUnplayed memory has_room value_at after gives (record new { links = x.0; before = x.1 }) node tray) (λ i. (sym links i, sym before i))
      record {
        are = u.are;
        held = held u.held;
        bench = u.bench;
        room = u.room;
        given = u.given;
        none_released = λ l h e. released l h e (u.none_released l h e);
      }

  pub unplayed_same : (old new : Duty B) (node : ℕ) (tray : Tray B Y) → new.links ≡ old.links → new.before ≡ old.before → new.held ≡ old.held → new.released ≡ old.released → IsUnplayed memory has_room value_at after gives old node tray → IsUnplayed memory has_room value_at after gives new node tray
  unplayed_same old new node tray links before held released = unplayed_stays old new node tray links before (λ h. ap (λ xs. has xs node) held ∙ h) (λ l low from off. ap (λ xs. has xs l) released ∙ off)

  pub unplayed_at_taken : (old new : Duty B) (node l next : ℕ) (tray : Tray B Y) → new ≡ with_held (with_released old l) next → (link_at old.links l).from ≢ node → IsUnplayed memory has_room value_at after gives old node tray → IsUnplayed memory has_room value_at after gives new node tray
  unplayed_at_taken old new node l next tray is ne u =
      subst (λ (d : Duty B). IsUnplayed memory has_room value_at after gives d node tray) (sym is)
      (unplayed_stays old (with_held (with_released old l) next) node tray refl refl (λ h. has_there next old.held node h) (λ k low from off. has_skip l old.released k (λ e. ne (ap (λ j. (link_at old.links j).from) e ∙ from)) ∙ off) u)

  pub unplayed_at_released : (old new : Duty B) (node l : ℕ) (tray : Tray B Y) → new ≡ with_released old l → (link_at old.links l).from ≢ node → IsUnplayed memory has_room value_at after gives old node tray → IsUnplayed memory has_room value_at after gives new node tray
  unplayed_at_released old new node l tray is ne u =
      subst (λ (d : Duty B). IsUnplayed memory has_room value_at after gives d node tray) (sym is)
      (unplayed_stays old (with_released old l) node tray refl refl (λ h. h) (λ k low from off. has_skip l old.released k (λ e. ne (ap (λ j. (link_at old.links j).from) e ∙ from)) ∙ off) u)

  pub played_stays : (old new : Duty B) (node : ℕ) (tray : Tray B Y) → new.links ≡ old.links → new.before ≡ old.before → has new.held node ≡ has old.held node
      → ((l : ℕ) → l < length old.links → (link_at old.links l).from ≡ node → has new.released l ≡ has old.released l) → IsPlayed memory has_room value_at after gives old node tray → IsPlayed memory has_room value_at after gives new node tray
  played_stays old new node tray links before held released p =
      subst (λ (x : List Link × List B). IsPlayed memory has_room value_at after gives (record new { links = x.0; before = x.1 }) node tray) (λ i. (sym links i, sym before i))
      record {
        held = held ∙ p.held;
        old = p.old;
        old_is = p.old_is;
        bench = p.bench;
        room = p.room;
        given = p.given;
        rooms = record {
          places = λ l h e. p.rooms.places l h e ∙ ap (λ b. cond b false (has_room p.old (place_among old.links l))) (sym (released l h e));
          had = λ l h e on. p.rooms.had l h e (sym (released l h e) ∙ on);
          others = p.rooms.others;
        };
        shown = λ l h e off on. p.shown l h e (sym (released l h e) ∙ off) on;
      }

  -- where the bench had room before the cycle
  pub has_room_at : (d : Duty B) (links : List Link) (node l : ℕ) (tray : Tray B Y) → d.links ≡ links → IsPlayed memory has_room value_at after gives d node tray
      → ((bench : B) → get_elem? d.before (link_at links l).from ≡ some bench → has_room bench (place_among links l) ≡ true) → l < length links → (link_at links l).from ≡ node → has d.released l ≡ false
      → has_room tray.bench (place_among links l) ≡ true
  has_room_at d links node l tray same p room low from off =
      subst (λ (ls : List Link). ((bench : B) → get_elem? d.before (link_at ls l).from ≡ some bench → has_room bench (place_among ls l) ≡ true) → l < length ls → (link_at ls l).from ≡ node → has_room tray.bench (place_among ls l) ≡ true) same
      (λ room' low' from'. p.rooms.places l low' from' ∙ (ap (λ b. cond b false (has_room p.old (place_among d.links l))) off ∙ room' p.old (ap (get_elem? d.before) from' ∙ p.old_is)))
      room low from
