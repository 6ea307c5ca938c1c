-- Values are handed out and given back one after another, and nodes are played one after another.
--     row-incoming      the links into a node are a row
--     apart-row, apart-node      the places of the other links of a row, and those of the node itself, are apart
--     alike-set, shown-set      one bench more hands a value out, or gets it back
--     turn-of      a node's turn, from what was handed out, its play, and what was given back
--     in_order-next, in_order-all      one node more was played in order, and all were
use Rattle.std.proofs.Common.{rules, arith, ◌≡◌, ◌≢◌, ◌≤◌, ◌<◌, ◌+◌, ◌==◌, ◌⊎◌, inl, inr, ⊎_elim, ℕ, zero, suc, Bool, true, List, [], ◌∷◌, ◌++◌, length, map, take, get_or, set, All, Option, Some, IsSome, refl, sym, ◌∙◌, ap, subst, eqb-true, get_or-set_same, get_or-set_other, length-set}
use Rattle.std.proofs.lemmas.List.{get_or_default}
use Rattle.std.proofs.lemmas.Bool.{cases_order}
use Rattle.std.proofs.Math.Seq.{take-suc}
use mathlib.Core.Logic.{dite}
use native.Mathlib.Decide.{ℕ_discrete}
use Rattle.table_lemmas.proofs.Readings.{at_get, get_at, inside}
use Rattle.jack_types.specs.declared.ports.Link.{Link}
use Rattle.session_model.specs.Activation.{AreLinks, no_link, link_at, incoming, outgoing, place_among, value_of, sequential, given_to}
use Rattle.session_model.specs.Samples.{below}
use Rattle.steal_workers.specs.session_laws.proofs.CycleLemmas.{map_filter-same}
use Rattle.steal_workers.specs.session_laws.proofs.SequentialLemmas.{outgoing_at, Contains-below, given_to-values}
use Rattle.client_benches.specs.activation.specs.Values.{values_of}
use Rattle.client_benches.specs.activation.specs.Contents.{Tells}
use Rattle.client_benches.specs.activation.specs.Rounds.{AreReturned}
use Rattle.client_benches.specs.activation.proofs.Listed.{each_at, incoming-facts, incoming-rises, incoming-short}
use Rattle.steal_workers.specs.cycle_workers.specs.Runs.{HaveRoom}
use Rattle.bench_crew.specs.Turns.{IsRow, IsApart, ShowRoom, handed, AreLike, IsTurn, AreInOrder}

-- ---- rows of links

incoming-at : (links : List Link) (n j : ℕ) → j < length (incoming links n) → (get_or (incoming links n) j 0 < length links) × ((link_at links (get_or (incoming links n) j 0)).to ≡ n)
incoming-at links n j low = each_at (λ l. (l < length links) × ((link_at links l).to ≡ n)) (incoming links n) (incoming-facts links n) j 0 low

pub row-incoming : (links : List Link) (n : ℕ) → length links ≤ 512 → IsRow links (incoming links n)
row-incoming links n few = record {
  within = λ j low. (incoming-at links n j low).0;
  once = λ i j low_i low_j same. ⊎_elim (λ (e : i ≡ j). e)
      (⊎_elim
      (λ (lt : i < j). let rise = incoming-rises links n i j lt low_j in absurd (omega (arith, rise, same)))
      (λ (lt : j < i). let rise = incoming-rises links n j i lt low_i in absurd (omega (arith, rise, same))))
      (cases_order i j);
  short = omega (arith, few, incoming-short links n);
}

-- where node and place are the same, the link is
same_link : (links : List Link) (a b : ℕ) → a < length links → b < length links → (link_at links a).from ≡ (link_at links b).from → place_among links a ≡ place_among links b → a ≡ b
same_link links a b low_a low_b node place =
    sym (outgoing_at links a 0 low_a).1 ∙ ((λ i. get_or (outgoing links (node i)) (place i) 0) ∙ (outgoing_at links b 0 low_b).1)

pub apart-row : (links : List Link) (which : List ℕ) (first end i : ℕ) → IsRow links which → i < length which → end ≤ length which → ((j : ℕ) → first ≤ j → j < end → j ≢ i)
    → IsApart links which first end (link_at links (get_or which i 0)).from (place_among links (get_or which i 0))
apart-row links which first end i row low long others j from_first to_end node place =
    let low' : j < length which = omega (arith, to_end, long) in
    others j from_first to_end (row.once j i low' low (same_link links (get_or which j 0) (get_or which i 0) (row.within j low') (row.within i low) node place))

-- links go upward, so a node is no source of its own
pub apart-node : (nodes : ℕ) (links : List Link) (n first place : ℕ) → AreLinks nodes links → IsApart links (incoming links n) first (length (incoming links n)) n place
apart-node nodes links n first place are j from_first to_end node same =
    let fact = incoming-at links n j to_end in
    let up : (link_at links (get_or (incoming links n) j 0)).from < (link_at links (get_or (incoming links n) j 0)).to = are.upward (get_or (incoming links n) j 0) no_link fact.0 in
    absurd (omega (arith, up, fact.1, node))

-- a link into another node has a place apart
pub apart-other : (links : List Link) (n first l : ℕ) → l < length links → (link_at links l).to ≢ n → IsApart links (incoming links n) first (length (incoming links n)) (link_at links l).from (place_among links l)
apart-other links n first l low ne j from_first to_end node place =
    let fact = incoming-at links n j to_end in
    ne (ap (λ k. (link_at links k).to) (sym (same_link links (get_or (incoming links n) j 0) l fact.0 low node place)) ∙ fact.1)

-- a place is apart, or that of one of the links
apart_or : (links : List Link) (which : List ℕ) (n place end : ℕ) → IsApart links which 0 end n place ⊎ ((j : ℕ) × (j < end) × ((link_at links (get_or which j 0)).from ≡ n) × (place_among links (get_or which j 0) ≡ place))
apart_or links which n place zero = inl (λ j from_first to_end. absurd (omega (arith, to_end)))
apart_or links which n place (suc end) = ⊎_elim
    (λ (apart : IsApart links which 0 end n place).
    dite (ℕ_discrete (link_at links (get_or which end 0)).from n)
    (λ node. dite (ℕ_discrete (place_among links (get_or which end 0)) place)
    (λ same. inr (end, omega arith, node, same))
    (λ ne. inl (λ j from_first to_end at same. dite (ℕ_discrete j end)
    (λ last. ne (ap (λ i. place_among links (get_or which i 0)) (sym last) ∙ same))
    (λ other. apart j from_first (omega (arith, to_end, other)) at same))))
    (λ ne. inl (λ j from_first to_end at same. dite (ℕ_discrete j end)
    (λ last. absurd (ne (ap (λ i. (link_at links (get_or which i 0)).from) (sym last) ∙ at)))
    (λ other. apart j from_first (omega (arith, to_end, other)) at same))))
    (λ (found : (j : ℕ) × (j < end) × ((link_at links (get_or which j 0)).from ≡ n) × (place_among links (get_or which j 0) ≡ place)). inr (found.0, omega (arith, found.1), found.2, found.3))
    (apart_or links which n place end)

-- ---- benches

values_of-map : {A Y : Type 0} (f : A → Y) (xs : List A) → values_of (map (λ x. Some (f x)) xs) ≡ map f xs
values_of-map f [] = refl
values_of-map f (x ∷ xs) = ap (λ ys. f x ∷ ys) (values_of-map f xs)

pub are_some : {A Y : Type 0} (f : A → Y) (xs : List A) → All (λ (o : Option Y). IsSome o) (map (λ x. Some (f x)) xs)
are_some f [] k d low = absurd (omega (arith, low))
are_some f (x ∷ xs) zero d low = search rules
are_some f (x ∷ xs) (suc k) d low = are_some f xs k d (omega (arith, low))

-- what holds of the new bench, and of each other one
at-set : {B : Type 0} (P : B → Type 0) (now : List B) (i n : ℕ) (bench d : B) → i < length now → (n ≡ i → P bench) → (n ≢ i → P (get_or now n d)) → P (get_or (set now i bench) n d)
at-set P now i n bench d low mine others = dite (ℕ_discrete n i)
    (λ e. subst P (sym (ap (λ k. get_or (set now i bench) k d) e ∙ get_or-set_same now i bench d low)) (mine e))
    (λ ne. subst P (sym (get_or-set_other now i n bench d ne)) (others ne))

module _ {B M Y : Type 0} (memory : B → M) (has_room : B → ℕ → Bool) (value_at : B → ℕ → Y) where
  -- one bench is changed at one place at most
  pub alike-set : (apart wider : ℕ → ℕ → Type 0) (old now : List B) (i p : ℕ) (bench e : B) → i < length now → ((n place : ℕ) → wider n place → apart n place) → ((place : ℕ) → wider i place → place ≢ p)
      → memory bench ≡ memory (get_or now i e) → ((place : ℕ) → place ≢ p → (has_room bench place ≡ has_room (get_or now i e) place) × (value_at bench place ≡ value_at (get_or now i e) place))
      → AreLike memory has_room value_at apart old now → AreLike memory has_room value_at wider old (set now i bench)
  alike-set apart wider old now i p bench e low less other same others like = record {
    count = length-set now i bench ∙ like.count;
    memories = λ n d. at-set (λ b. memory b ≡ memory (get_or old n d)) now i n bench d low
        (λ is. same ∙ (ap memory (get_or_default now i e d low) ∙ (like.memories i d ∙ ap (λ k. memory (get_or old k d)) (sym is))))
        (λ ne. like.memories n d);
    rooms = λ n place d at. at-set (λ b. has_room b place ≡ has_room (get_or old n d) place) now i n bench d low
        (λ is.
        (others place (other place (subst (λ k. wider k place) is at))).0
        ∙ (ap (λ b. has_room b place) (get_or_default now i e d low) ∙ (like.rooms i place d (subst (λ k. apart k place) is (less n place at)) ∙ ap (λ k. has_room (get_or old k d) place) (sym is))))
        (λ ne. like.rooms n place d (less n place at));
    values = λ n place d at. at-set (λ b. value_at b place ≡ value_at (get_or old n d) place) now i n bench d low
        (λ is.
        (others place (other place (subst (λ k. wider k place) is at))).1
        ∙ (ap (λ b. value_at b place) (get_or_default now i e d low) ∙ (like.values i place d (subst (λ k. apart k place) is (less n place at)) ∙ ap (λ k. value_at (get_or old k d) place) (sym is))))
        (λ ne. like.values n place d (less n place at));
  }

  pub shown-set : (shown : Bool) (links : List Link) (which : List ℕ) (first end first' end' i : ℕ) (now : List B) (bench e : B) → IsRow links which → i < length which → end' ≤ length which → (link_at links (get_or which i 0)).from < length now
      → ((j : ℕ) → first' ≤ j → j < end' → j ≢ i → (first ≤ j) × (j < end)) → has_room bench (place_among links (get_or which i 0)) ≡ shown
      → ((place : ℕ) → place ≢ place_among links (get_or which i 0) → has_room bench place ≡ has_room (get_or now (link_at links (get_or which i 0)).from e) place)
      → ShowRoom has_room shown links which first end now → ShowRoom has_room shown links which first' end' (set now (link_at links (get_or which i 0)).from bench)
  shown-set shown links which first end first' end' i now bench e row low long inside node_low is others old j d from_first to_end = dite (ℕ_discrete j i)
      (λ same. at-set (λ b. has_room b (place_among links (get_or which j 0)) ≡ shown) now (link_at links (get_or which i 0)).from (link_at links (get_or which j 0)).from bench d inside
      (λ node. ap (λ k. has_room bench (place_among links (get_or which k 0))) same ∙ is)
      (λ ne. absurd (ne (ap (λ k. (link_at links (get_or which k 0)).from) same))))
      (λ other.
      let was = node_low j from_first to_end other in
      at-set (λ b. has_room b (place_among links (get_or which j 0)) ≡ shown) now (link_at links (get_or which i 0)).from (link_at links (get_or which j 0)).from bench d inside
      (λ node.
      others (place_among links (get_or which j 0)) (λ place. other (row.once j i (omega (arith, to_end, long)) low (same_link links (get_or which j 0) (get_or which i 0) (row.within j (omega (arith, to_end, long))) (row.within i low) node place)))
      ∙ (ap (λ k. has_room (get_or now k e) (place_among links (get_or which j 0))) (sym node)
      ∙ (ap (λ b. has_room b (place_among links (get_or which j 0))) (get_or_default now (link_at links (get_or which j 0)).from e d (subst (λ k. k < length now) (sym node) inside)) ∙ old j d was.0 was.1)))
      (λ ne. old j d was.0 was.1))

  -- whether a place of a link that is left as it was has room, and what lies there
  pub room-left : (shown : Bool) (links : List Link) (which : List ℕ) (first end i node place : ℕ) (old now : List B) (e : B) → IsRow links which → i < length which → end ≤ length which → ((j : ℕ) → first ≤ j → j < end → j ≢ i)
      → node ≡ (link_at links (get_or which i 0)).from → place ≡ place_among links (get_or which i 0) → AreLike memory has_room value_at (IsApart links which first end) old now → ShowRoom has_room shown links which 0 (length which) old
      → has_room (get_or now node e) place ≡ shown
  room-left shown links which first end i node place old now e row low long others is_node is_place like shows =
      (λ k. has_room (get_or now (is_node k) e) (is_place k))
      ∙ (like.rooms (link_at links (get_or which i 0)).from (place_among links (get_or which i 0)) e (apart-row links which first end i row low long others) ∙ shows i e (omega arith) low)

  pub value-left : (links : List Link) (which : List ℕ) (first end i node place : ℕ) (old now : List B) (e d : B) → IsRow links which → i < length which → end ≤ length which → ((j : ℕ) → first ≤ j → j < end → j ≢ i)
      → node ≡ (link_at links (get_or which i 0)).from → place ≡ place_among links (get_or which i 0) → node < length now → AreLike memory has_room value_at (IsApart links which first end) old now
      → value_at (get_or now node e) place ≡ value_at (get_or old (link_at links (get_or which i 0)).from d) (place_among links (get_or which i 0))
  value-left links which first end i node place old now e d row low long others is_node is_place inside' like =
      let inside'' : (link_at links (get_or which i 0)).from < length old = omega (arith, is_node, inside', like.count) in
      (λ k. value_at (get_or now (is_node k) e) (is_place k))
      ∙ (like.values (link_at links (get_or which i 0)).from (place_among links (get_or which i 0)) e (apart-row links which first end i row low long others)
      ∙ ap (λ b. value_at b (place_among links (get_or which i 0))) (get_or_default old (link_at links (get_or which i 0)).from e d inside''))

  -- the bench of one link more hands its value out, or gets it back
  pub one-more : (shown : Bool) (links : List Link) (which : List ℕ) (first end first' end' i node place : ℕ) (old now : List B) (bench e : B) → IsRow links which → i < length which → end' ≤ length which → first' ≤ i → i < end' → first' ≤ first → end ≤ end'
      → ((j : ℕ) → first' ≤ j → j < end' → j ≢ i → (first ≤ j) × (j < end)) → node ≡ (link_at links (get_or which i 0)).from → place ≡ place_among links (get_or which i 0) → node < length now
      → memory bench ≡ memory (get_or now node e) → has_room bench place ≡ shown → ((other : ℕ) → other ≢ place → (has_room bench other ≡ has_room (get_or now node e) other) × (value_at bench other ≡ value_at (get_or now node e) other))
      → AreLike memory has_room value_at (IsApart links which first end) old now → ShowRoom has_room shown links which first end now
      → AreLike memory has_room value_at (IsApart links which first' end') old (set now node bench) × ShowRoom has_room shown links which first' end' (set now node bench)
  one-more shown links which first end first' end' i node place old now bench e row low long from_first to_end first_low end_low others is_node is_place =
      subst (λ (z : ℕ × ℕ). z.0 < length now → memory bench ≡ memory (get_or now z.0 e) → has_room bench z.1 ≡ shown → ((other : ℕ) → other ≢ z.1 → (has_room bench other ≡ has_room (get_or now z.0 e) other) × (value_at bench other ≡ value_at (get_or now z.0 e) other))
      → AreLike memory has_room value_at (IsApart links which first end) old now → ShowRoom has_room shown links which first end now
      → AreLike memory has_room value_at (IsApart links which first' end') old (set now z.0 bench) × ShowRoom has_room shown links which first' end' (set now z.0 bench)) (λ k. (sym is_node k, sym is_place k))
      (λ inside' same is rest like shows. (
        alike-set (IsApart links which first end) (IsApart links which first' end') old now (link_at links (get_or which i 0)).from (place_among links (get_or which i 0)) bench e inside'
            (λ n p apart j a b. apart j (omega (arith, a, first_low)) (omega (arith, b, end_low)))
            (λ p apart at. apart i from_first to_end refl (sym at))
            same rest like,
        shown-set shown links which first end first' end' i now bench e row low long inside' others is (λ p ne. (rest p ne).0) shows,
      ))

map-snoc : {A C : Type 0} (f : A → C) (xs : List A) (x : A) → map f (xs ++ x ∷ []) ≡ map f xs ++ f x ∷ []
map-snoc f [] x = refl
map-snoc f (y ∷ ys) x = ap (λ l. f y ∷ l) (map-snoc f ys x)

-- one value more was handed out
pub given-next : {Y : Type 0} (f : ℕ → Y) (which : List ℕ) (i : ℕ) (given more : List (Option Y)) (value : Y) → i < length which → given ≡ map (λ k. Some (f k)) (take i which) → more ≡ given ++ Some value ∷ [] → value ≡ f (get_or which i 0)
    → more ≡ map (λ k. Some (f k)) (take (i + 1) which)
given-next f which i given more value low are is same =
    let next : suc i ≡ i + 1 = omega arith in
    is
    ∙ ((λ k. are k ++ Some (same k) ∷ [])
    ∙ (sym (map-snoc (λ k. Some (f k)) (take i which) (get_or which i 0)) ∙ ap (map (λ k. Some (f k))) (sym (take-suc which i 0 low) ∙ ap (λ n. take n which) next)))

pub from-within : (nodes : ℕ) (links : List Link) (l : ℕ) → AreLinks nodes links → l < length links → (link_at links l).from < nodes
from-within nodes links l are low = let up = are.upward l no_link low in let within = are.within l no_link low in omega (arith, up, within)

module _ {B M Y : Type 0} (memory : B → M) (has_room : B → ℕ → Bool) (value_at : B → ℕ → Y) (after : M → List Y → M) (gives : M → List Y → ℕ → Y) (nodes : ℕ) (links : List Link) (are : AreLinks nodes links) where
  -- there is room at the places of all links into a node
  pub shown-into : (benches : List B) (n : ℕ) → length benches ≡ nodes → HaveRoom has_room links benches → ShowRoom has_room true links (incoming links n) 0 (length (incoming links n)) benches
  shown-into benches n long rooms j d from_first to_end =
      let l : ℕ = get_or (incoming links n) j 0 in
      let fact = incoming-at links n j to_end in
      let node = from-within nodes links l are fact.0 in
      rooms l (get_or benches (link_at links l).from d) fact.0 (at_get benches (link_at links l).from d (omega (arith, node, long)))

  pub room-at : (benches : List B) (l : ℕ) (d : B) → length benches ≡ nodes → HaveRoom has_room links benches → l < length links → has_room (get_or benches (link_at links l).from d) (place_among links l) ≡ true
  room-at benches l d long rooms low =
      let node = from-within nodes links l are low in
      rooms l (get_or benches (link_at links l).from d) low (at_get benches (link_at links l).from d (omega (arith, node, long)))

  -- the node itself has none of these places
  pub shown-still : (shown : Bool) (n : ℕ) (out : List B) (bench : B) → ShowRoom has_room shown links (incoming links n) 0 (length (incoming links n)) out → ShowRoom has_room shown links (incoming links n) 0 (length (incoming links n)) (set out n bench)
  shown-still shown n out bench old j d from_first to_end =
      let l : ℕ = get_or (incoming links n) j 0 in
      let ne : (link_at links l).from ≢ n = λ e. apart-node nodes links n 0 (place_among links l) are j (omega arith) to_end e refl in
      ap (λ b. has_room b (place_among links l)) (get_or-set_other out n (link_at links l).from bench d ne) ∙ old j d from_first to_end

  -- values are handed out, the node is played on them, and they are given back
  pub turn-of : (n : ℕ) (old out back : List B) (bench e : B) (given : List (Option Y)) → n < nodes → length old ≡ nodes → HaveRoom has_room links old
      → AreLike memory has_room value_at (IsApart links (incoming links n) 0 (length (incoming links n))) old out
      → ((d : B) → given ≡ map (λ l. Some (value_at (get_or old (link_at links l).from d) (place_among links l))) (incoming links n))
      → memory bench ≡ after (memory (get_or out n e)) (values_of given) → ((place : ℕ) → has_room (get_or out n e) place ≡ true → value_at bench place ≡ gives (memory (get_or out n e)) (values_of given) place) → ((place : ℕ) → has_room bench place ≡ has_room (get_or out n e) place)
      → AreLike memory has_room value_at (IsApart links (incoming links n) 0 (length (incoming links n))) (set out n bench) back → ShowRoom has_room true links (incoming links n) 0 (length (incoming links n)) back
      → IsTurn memory has_room value_at after gives links n old back
  turn-of n old out back bench e given low long rooms taken are_given remembers shows keeps given_back shown = record {
    count = given_back.count ∙ (length-set out n bench ∙ taken.count);
    rooms = λ m place d. ⊎_elim
        (λ (apart : IsApart links which 0 (length which) m place).
        given_back.rooms m place d apart
        ∙ at-set (λ b. has_room b place ≡ has_room (get_or old m d) place) out n m bench d inside'
        (λ is. keeps place ∙ (ap (λ b. has_room b place) (get_or_default out n e d inside') ∙ (ap (λ k. has_room (get_or out k d) place) (sym is) ∙ taken.rooms m place d apart)))
        (λ ne. taken.rooms m place d apart))
        (λ (found : (j : ℕ) × (j < length which) × ((link_at links (get_or which j 0)).from ≡ m) × (place_among links (get_or which j 0) ≡ place)).
        subst (λ (z : ℕ × ℕ). has_room (get_or back z.0 d) z.1 ≡ has_room (get_or old z.0 d) z.1) (λ k. (found.2 k, found.3 k))
        (shown found.0 d (omega arith) found.1 ∙ sym (room-at old (get_or which found.0 0) d long rooms (incoming-at links n found.0 found.1).0)))
        (apart_or links which m place (length which));
    memory_is = λ d. given_back.memories n d ∙ (ap memory (get_or-set_same out n bench d inside') ∙ (remembers ∙ (λ k. after (same d k) (values d k))));
    memories = λ m d ne. given_back.memories m d ∙ (ap memory (get_or-set_other out n m bench d ne) ∙ taken.memories m d);
    values = λ l d low' is.
        given_back.values n (place_among links l) d (apart-node nodes links n 0 (place_among links l) are)
        ∙ (ap (λ b. value_at b (place_among links l)) (get_or-set_same out n bench d inside')
        ∙ (shows (place_among links l)
        (ap (λ b. has_room b (place_among links l)) (get_or_default out n e d inside')
        ∙ (taken.rooms n (place_among links l) d (apart-node nodes links n 0 (place_among links l) are) ∙ subst (λ k. has_room (get_or old k d) (place_among links l) ≡ true) is (room-at old l d long rooms low')))
        ∙ (λ k. gives (same d k) (values d k) (place_among links l))));
    others = λ l d low' from to.
        given_back.values (link_at links l).from (place_among links l) d (apart-other links n 0 l low' to)
        ∙ (ap (λ b. value_at b (place_among links l)) (get_or-set_other out n (link_at links l).from bench d from) ∙ taken.values (link_at links l).from (place_among links l) d (apart-other links n 0 l low' to));
  }
    where
      which : List ℕ
      which = incoming links n

      inside' : n < length out
      inside' = omega (arith, low, long, taken.count)

      same : (d : B) → memory (get_or out n e) ≡ memory (get_or old n d)
      same d = ap memory (get_or_default out n e d inside') ∙ taken.memories n d

      values : (d : B) → values_of given ≡ handed value_at links old d n
      values d = ap values_of (are_given d) ∙ values_of-map (λ l. value_at (get_or old (link_at links l).from d) (place_among links l)) (incoming links n)

  pub rooms-now : (n : ℕ) (old now : List B) → HaveRoom has_room links old → AreInOrder memory has_room value_at after gives links n old now → HaveRoom has_room links now
  rooms-now n old now rooms so_far l bench low is =
      let inside' : (link_at links l).from < length old = subst (λ k. (link_at links l).from < k) so_far.count (inside now (link_at links l).from bench is) in
      ap (λ b. has_room b (place_among links l)) (sym (get_at now (link_at links l).from bench bench is))
      ∙ (so_far.rooms (link_at links l).from (place_among links l) bench ∙ rooms l (get_or old (link_at links l).from bench) low (at_get old (link_at links l).from bench inside'))

  module _ (n : ℕ) (old now new : List B) (low : n < nodes) (long : length old ≡ nodes) (so_far : AreInOrder memory has_room value_at after gives links n old now) (turn : IsTurn memory has_room value_at after gives links n now new) where
    -- what the sources have is what the sequence gives
    handed-is : (before : ℕ → M) (d : B) → Tells memory has_room after gives old before → handed value_at links now d n ≡ given_to after gives links before n
    handed-is before d tells =
        map_filter-same (λ l. (link_at links l).to == n) (λ l. value_at (get_or now (link_at links l).from d) (place_among links l)) (value_of after gives links before) (below (length links))
        (λ l contained test.
        let low' : l < length links = Contains-below (length links) l contained in
        let up : (link_at links l).from < (link_at links l).to = are.upward l no_link low' in
        let into : (link_at links l).to ≡ n = eqb-true (link_at links l).to n test in
        so_far.waiting before l d tells low' (omega (arith, up, into)) (omega (arith, into)))
        ∙ sym (given_to-values after gives nodes links before are n)

    memory-is : (before : ℕ → M) (d : B) → Tells memory has_room after gives old before → memory (get_or now n d) ≡ before n
    memory-is before d tells = so_far.later n d (omega arith) ∙ sym (tells n (get_or old n d) (at_get old n d (omega (arith, low, long))))

    pub in_order-next : AreInOrder memory has_room value_at after gives links (n + 1) old new
    in_order-next = record {
      count = turn.count ∙ so_far.count;
      rooms = λ m place d. turn.rooms m place d ∙ so_far.rooms m place d;
      played = λ before m d tells under inside'. dite (ℕ_discrete m n)
          (λ is. subst (λ k. memory (get_or new k d) ≡ sequential after gives links before k) (sym is) (turn.memory_is d ∙ (λ k. after (memory-is before d tells k) (handed-is before d tells k))))
          (λ ne. turn.memories m d ne ∙ so_far.played before m d tells (omega (arith, under, ne)) inside');
      later = λ m d above. turn.memories m d (λ e. absurd (omega (arith, above, e))) ∙ so_far.later m d (omega (arith, above));
      waiting = λ before l d tells low' from to. dite (ℕ_discrete (link_at links l).from n)
          (λ is.
          ap (λ k. value_at (get_or new k d) (place_among links l)) is
          ∙ (turn.values l d low' is
          ∙ ((λ k. gives (memory-is before d tells k) (handed-is before d tells k) (place_among links l))
          ∙ ap (λ k. gives (before k) (given_to after gives links before k) (place_among links l)) (sym is))))
          (λ ne. turn.others l d low' ne (λ e. absurd (omega (arith, to, e))) ∙ so_far.waiting before l d tells low' (omega (arith, from, ne)) (omega (arith, to)));
    }

  pub in_order-all : (n : ℕ) (old now : List B) → length old ≡ n → AreInOrder memory has_room value_at after gives links n old now → AreReturned memory has_room after gives links old now
  in_order-all n old now long so_far m bench is =
      let low : m < length old = subst (λ k. m < k) so_far.count (inside now m bench is) in
      let here : get_or now m bench ≡ bench = get_at now m bench bench is in (
        (λ before tells. ap memory (sym here) ∙ so_far.played before m bench tells (omega (arith, low, long)) low),
        (λ was was_is place. ap (λ b. has_room b place) (sym here) ∙ (so_far.rooms m place bench ∙ ap (λ b. has_room b place) (get_at old m was bench was_is))),
      )
