-- What a call needs to know of the slots that it uses.
use Rattle.std.proofs.Common.{◌≡◌, ◌≢◌, ℕ, inl, inr, zero, suc, ◌+◌, ◌-◌, ◌<◌, Bool, true, false, cond, List, [], ◌∷◌, length, map, get_or, All, Option, Some, None, refl, sym, ◌∙◌, ap, subst, arith, true≢false}
use mathlib.Core.Logic.{dite}
use mathlib.Core.Option.{some, some-injective}
use native.Mathlib.Decide.{ℕ_discrete}
use lib.ListN.{get_elem?}
use Rattle.session_laws.specs.jack_types.specs.declared.ports.Link.{Link}
use Rattle.session_laws.specs.session_model.specs.Activation.{link_at, outgoing, place_among, value_of}
use Rattle.session_laws.proofs.SequentialLemmas.{outgoing_at}
use Rattle.activation.specs.declared.views.Tray.{Tray}
use Rattle.activation.specs.declared.views.Duty.{Duty}
use Rattle.activation.specs.declared.views.View.{View}
use Rattle.activation.specs.declared.views.Item.TheVariants.{Bench, Value}
use Rattle.activation.specs.Rule.{has}
use Rattle.activation.specs.Plays.{Owns}
use Rattle.activation.specs.Contents.{HasRoomFor, IsFull, IsDone, IsValueOf, AreValuesOf}
use Rattle.activation.specs.Takens.{IsPlayed}
use Rattle.activation.proofs.Listed.{each_at, get_or-map, outgoing-facts}
use Rattle.activation.proofs.Testing.{has_here, has_skip}

module _ {S B : Type 0} (v : View S B) (links : List Link) (nodes : ℕ) (same : v.duty.links ≡ links) (long : length v.duty.before ≡ nodes) where
  pub owns_bench : (n : ℕ) → has v.duty.held n ≡ true → n < nodes → Owns v n
  owns_bench n held low = inl (n, held, inl (subst (λ k. n < k) (sym long) low, refl))

  pub owns_value : (n l : ℕ) → has v.duty.held n ≡ true → l < length links → (link_at links l).to ≡ n → Owns v (nodes + l)
  owns_value n l held low to = inl (n, held, inr (l, subst (λ ls. l < length ls) (sym same) low, ap (λ k. k + l) (sym long), ap (λ ls. (link_at ls l).to) same ∙ to))

  pub owns_room : (l : ℕ) → has v.duty.held (link_at links l).from ≡ true → l < length links → has v.duty.released l ≡ false → Owns v (nodes + l)
  owns_room l held low off = inr ((link_at links l).from, l, held, (subst (λ ls. l < length ls) (sym same) low, ap (λ k. k + l) (sym long), ap (λ ls. (link_at ls l).from) same), off)

-- two links out of one node have different places
pub place-apart : (links : List Link) (k l : ℕ) → k < length links → l < length links → (link_at links k).from ≡ (link_at links l).from → place_among links k ≡ place_among links l → k ≡ l
place-apart links k l low low' from place =
    sym (outgoing_at links k 0 low).1 ∙ ((λ i. get_or (outgoing links (from i)) (place i) 0) ∙ (outgoing_at links l 0 low').1)

module _ {B M Y : Type 0} (memory : B → M) (has_room : B → ℕ → Bool) (value_at : B → ℕ → Y) (after : M → List Y → M) (gives : M → List Y → ℕ → Y) where
  pub full_value : (old links : List Link) (benches : List B) (l : ℕ) (value : Y) → old ≡ links → IsValueOf memory has_room after gives links benches l value → IsFull memory has_room after gives old benches (length benches + l) (Some (Value value))
  full_value old links benches l value same is = (
    (λ low. absurd (omega (arith, low))),
    (λ _. (value, refl, subst (λ (x : List Link × ℕ). IsValueOf memory has_room after gives x.0 benches x.1 value) (λ i. (sym same i, back i)) is)),
  )
    where
      back : l ≡ length benches + l - length benches
      back = omega arith

  pub full_bench : (links : List Link) (benches : List B) (n : ℕ) (tray : Tray B Y) → n < length benches → get_elem? benches n ≡ some tray.bench → HasRoomFor tray → IsFull memory has_room after gives links benches n (Some (Bench tray))
  full_bench links benches n tray low at room = ((λ _. (tray, refl, at, room)), (λ high. absurd (omega (arith, low, high))))

  -- one of the values that a node was given
  pub given_value : (links : List Link) (benches : List B) (which : List ℕ) (given : List (Option Y)) (i : ℕ) (value : Y) → AreValuesOf memory has_room after gives links benches which given → i < length which → get_or given i None ≡ Some value
      → IsValueOf memory has_room after gives links benches (get_or which i 0) value
  given_value links benches which given i value are low is before tells =
      let near : i < length are.0 = omega (arith, low, are.2) in
      let one : Some value ≡ Some (get_or are.0 i value) = sym is ∙ (ap (λ xs. get_or xs i None) are.1 ∙ get_or-map Some are.0 i value None near) in
      Some-injective value (get_or are.0 i value) one ∙ (ap (λ xs. get_or xs i value) (are.3 before tells) ∙ get_or-map (value_of after gives links before) which i 0 value low)
    where
      Some-injective : (a b : Y) → Some a ≡ Some b → a ≡ b
      Some-injective a b e = cc

  pub done_value : (links : List Link) (benches : List B) (nodes l : ℕ) (value : Y) → length benches ≡ nodes → IsDone memory has_room after gives links benches (nodes + l) (Some (Value value))
  done_value links benches nodes l value long = ((λ low. absurd (omega (arith, low, long))), (λ _. (value, refl)))

  -- a played bench whose links were all released is one that is home
  pub done_bench : (duty : Duty B) (links : List Link) (nodes node : ℕ) (tray home : Tray B Y) → duty.links ≡ links → length duty.before ≡ nodes → node < nodes → IsPlayed memory has_room value_at after gives duty node tray
      → ((l : ℕ) → l < length links → (link_at links l).from ≡ node → has duty.released l ≡ true) → home.bench ≡ tray.bench → HasRoomFor home → IsDone memory has_room after gives duty.links duty.before node (Some (Bench home))
  done_bench duty links nodes node tray home same long low played released is room = (
    (λ _. (
      home,
      refl,
      (
        (λ before tells. ap memory is ∙ played.bench before tells),
        room,
        (λ old old_is. record {
          places = λ l h e.
              ap (λ b. has_room b (place_among duty.links l)) is
              ∙ (played.rooms.places l h e ∙ (ap (λ b. cond b false (has_room played.old (place_among duty.links l))) (released l (subst (λ ls. l < length ls) same h) (ap (λ ls. (link_at ls l).from) (sym same) ∙ e))));
          had = λ l h e on.
              ap (λ b. has_room b (place_among duty.links l)) (one_of old played.old old_is played.old_is)
              ∙ played.rooms.had l h e (released l (subst (λ ls. l < length ls) same h) (ap (λ ls. (link_at ls l).from) (sym same) ∙ e));
          others = λ place no. ap (λ b. has_room b place) is ∙ (played.rooms.others place no ∙ ap (λ b. has_room b place) (one_of played.old old played.old_is old_is));
        }),
      ),
    )),
    (λ high. absurd (omega (arith, high, low, long))),
  )
    where
      one_of : (a b : B) → get_elem? duty.before node ≡ some a → get_elem? duty.before node ≡ some b → a ≡ b
      one_of a b e f = some_same a b (sym e ∙ f)
        where
          some_same : (a b : B) → some a ≡ some b → a ≡ b
          some_same a b e = some-injective a b e

  -- the value that a bench hands for a link
  pub handed_value : (duty : Duty B) (node : ℕ) (tray : Tray B Y) (links : List Link) (l place : ℕ) (value : Y) → duty.links ≡ links → IsPlayed memory has_room value_at after gives duty node tray → l < length links
      → (link_at links l).from ≡ node → has duty.released l ≡ false → has_room tray.bench (place_among links l) ≡ true → place ≡ place_among links l → value ≡ value_at tray.bench place → IsValueOf memory has_room after gives links duty.before l value
  handed_value duty node tray links l place value same played low from off on at is =
      subst (λ (ls : List Link). l < length ls → (link_at ls l).from ≡ node → has_room tray.bench (place_among ls l) ≡ true → place ≡ place_among ls l → IsValueOf memory has_room after gives ls duty.before l value) same
      (λ low' from' on' at' before tells. is ∙ (ap (value_at tray.bench) at' ∙ played.shown l low' from' off on' before tells)) low from on at

  -- a played bench that handed the value of a link
  pub handed : (duty next : Duty B) (node : ℕ) (tray : Tray B Y) (links : List Link) (l place : ℕ) (bench : B) → next.links ≡ duty.links → next.before ≡ duty.before → next.released ≡ l ∷ duty.released
      → ((n : ℕ) → has duty.held n ≡ true → has next.held n ≡ true) → duty.links ≡ links → IsPlayed memory has_room value_at after gives duty node tray → l < length links → (link_at links l).from ≡ node → has duty.released l ≡ false → has_room tray.bench (place_among links l) ≡ true → place ≡ place_among links l
      → memory bench ≡ memory tray.bench → has_room bench place ≡ false → ((other : ℕ) → other ≢ place → (has_room bench other ≡ has_room tray.bench other) × (value_at bench other ≡ value_at tray.bench other))
      → IsPlayed memory has_room value_at after gives next node (record tray { bench = bench })
  handed duty next node tray links l place bench same_links same_before same_released held same played low from unreleased on_at at kept gone others =
      subst (λ (x : List Link × List B × List ℕ). IsPlayed memory has_room value_at after gives (record next { links = x.0; before = x.1; released = x.2 }) node (record tray { bench = bench })) (λ i. (sym same_links i, sym same_before i, sym same_released i))
      record {
        held = held node played.held;
        old = played.old;
        old_is = played.old_is;
        bench = λ before tells. kept ∙ played.bench before tells;
        room = played.room;
        given = played.given;
        rooms = record {
          places = λ k h e. dite (ℕ_discrete l k)
              (λ is. ap (λ j. has_room bench (place_among duty.links j)) (sym is) ∙ (ap (has_room bench) (sym at') ∙ (gone
              ∙ sym (ap (λ b. cond b false (has_room played.old (place_among duty.links k))) (ap (has (l ∷ duty.released)) (sym is) ∙ has_here l duty.released)))))
              (λ ne. (others (place_among duty.links k) (other k h e ne)).0 ∙ (played.rooms.places k h e ∙ ap (λ b. cond b false (has_room played.old (place_among duty.links k))) (sym (has_skip l duty.released k ne))));
          had = λ k h e on. dite (ℕ_discrete l k)
              (λ is. subst (λ j. has_room played.old (place_among duty.links j) ≡ true) is (
              sym (played.rooms.places l low' from' ∙ ap (λ b. cond b false (has_room played.old (place_among duty.links l))) unreleased) ∙ (ap (λ ls. has_room tray.bench (place_among ls l)) same ∙ on_at)))
              (λ ne. played.rooms.had k h e (sym (has_skip l duty.released k ne) ∙ on));
          others = λ p no. (others p (λ e. no l low' from' (sym at' ∙ sym e))).0 ∙ played.rooms.others p no;
        };
        shown = λ k h e off on before tells.
            let ne : l ≢ k = λ is. true≢false (sym (ap (has (l ∷ duty.released)) (sym is) ∙ has_here l duty.released) ∙ off) in
            let far = others (place_among duty.links k) (other k h e ne) in
            far.1 ∙ played.shown k h e (sym (has_skip l duty.released k ne) ∙ off) (sym far.0 ∙ on) before tells;
      }
    where
      low' : l < length duty.links
      low' = subst (λ ls. l < length ls) (sym same) low

      from' : (link_at duty.links l).from ≡ node
      from' = ap (λ ls. (link_at ls l).from) same ∙ from

      at' : place ≡ place_among duty.links l
      at' = at ∙ ap (λ ls. place_among ls l) (sym same)

      other : (k : ℕ) → k < length duty.links → (link_at duty.links k).from ≡ node → l ≢ k → place_among duty.links k ≢ place
      other k h e ne is = ne (place-apart duty.links l k low' h (from' ∙ sym e) (sym at' ∙ sym is))

pub all_out : (links : List Link) (n : ℕ) (released : List ℕ) → ((l : ℕ) → l < length links → (link_at links l).from ≡ n → has released l ≡ true) → All (λ l. has released l ≡ true) (outgoing links n)
all_out links n released h j d b = let f = each_at (λ l. (l < length links) × ((link_at links l).from ≡ n)) (outgoing links n) (outgoing-facts links n) j d b in h (get_or (outgoing links n) j d) f.0 f.1

pub some_at : {Y : Type 0} (values : List Y) (i : ℕ) → i < length values → (y : Y) × (get_or (map Some values) i None ≡ Some y)
some_at [] i h = absurd (omega (arith, h))
some_at (y ∷ ys) zero h = (y, refl)
some_at (y ∷ ys) (suc i) h = some_at ys i (omega (arith, h))

pub none_some : {Y : Type 0} (o : Option Y) (y : Y) → o ≡ None → o ≡ Some y → ⊥
none_some {Y} o y e f = clash (sym e ∙ f)
  where
    clash : {y : Y} → None ≡ Some y → ⊥
    clash e = cc
