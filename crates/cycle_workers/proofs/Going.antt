-- What a run keeps of a node that waits for it.
use Rattle.std.proofs.Common.{◌≡◌, ◌≢◌, ℕ, suc, ◌+◌, ◌%◌, ◌<◌, ◌≤◌, true, false, cond, ◌==◌, List, [], ◌∷◌, length, map, get_or, refl, sym, ◌∙◌, ap, subst, arith, true≢false, eq-eqb, ne_eqb}
use Rattle.std.proofs.lemmas.List.{length-map}
use Rattle.session_model.specs.Samples.{below}
use Rattle.activation.specs.session_laws.proofs.SequentialLemmas.{length-below, outgoing_at}
use mathlib.Core.Logic.{dite}
use native.Mathlib.Decide.{dec_lt, ℕ_discrete}
use Rattle.jack_types.specs.declared.ports.Link.{Link}
use Rattle.session_model.specs.Activation.{AreLinks, no_link, link_at, outgoing, place_among}
use Rattle.activation.specs.declared.views.Duty.{Duty}
use Rattle.activation.specs.Rule.{has}
use Rattle.activation.specs.Plays.{without}
use Rattle.activation.specs.Takens.{with_started, with_released, with_held}
use Rattle.activation.proofs.Listed.{each_at, outgoing-facts, outgoing-rises}
use Rattle.activation.proofs.Testing.{has_here, has_skip, has_there}
use Rattle.cycle_workers.specs.Runs.{IsRun}

pub without_front : (n : ℕ) (xs : List ℕ) → without n (n ∷ xs) ≡ without n xs
without_front n xs = ap (λ b. cond b (without n xs) (n ∷ without n xs)) (eq-eqb n n refl)

pub without_none : (n : ℕ) (xs : List ℕ) → has xs n ≡ false → without n xs ≡ xs
without_none n [] off = refl
without_none n (x ∷ xs) off = dite (ℕ_discrete x n)
    (λ e. absurd (true≢false (sym (ap (λ b. cond b true (has xs n)) (eq-eqb x n e)) ∙ off)))
    (λ ne. ap (λ b. cond b (without n xs) (x ∷ without n xs)) (ne_eqb x n ne) ∙ ap (λ l. x ∷ l) (without_none n xs (sym (ap (λ b. cond b true (has xs n)) (ne_eqb x n ne)) ∙ off)))

-- a node that came, and went home
pub gone : (n : ℕ) (xs : List ℕ) → has xs n ≡ false → without n (n ∷ xs) ≡ xs
gone n xs off = without_front n xs ∙ without_none n xs off

pub has_without : (n : ℕ) (xs : List ℕ) (q : ℕ) → q ≢ n → has (without n xs) q ≡ has xs q
has_without n [] q ne = refl
has_without n (x ∷ xs) q ne = dite (ℕ_discrete x n)
    (λ e. ap (λ b. has (cond b (without n xs) (x ∷ without n xs)) q) (eq-eqb x n e) ∙ (has_without n xs q ne ∙ sym (has_skip x xs q (λ is. ne (sym is ∙ e)))))
    (λ ne'. ap (λ b. has (cond b (without n xs) (x ∷ without n xs)) q) (ne_eqb x n ne') ∙ ap (λ b. cond (x == q) true b) (has_without n xs q ne))

-- another node is held as before
pub kept_held : {B : Type 0} (n q : ℕ) (mid new : Duty B) → new.held ≡ without n mid.held → q ≢ n → has new.held q ≡ has mid.held q
kept_held n q mid new is ne = ap (λ l. has l q) is ∙ has_without n mid.held q ne

-- a link out of a node, by its place among them
pub out_fact : (links : List Link) (node j : ℕ) → j < length (outgoing links node) → (get_or (outgoing links node) j 0 < length links) × ((link_at links (get_or (outgoing links node) j 0)).from ≡ node)
out_fact links node j low = each_at (λ l. (l < length links) × ((link_at links l).from ≡ node)) (outgoing links node) (outgoing-facts links node) j 0 low

out_apart : (links : List Link) (node j k : ℕ) → j < length (outgoing links node) → k < length (outgoing links node) → j ≢ k → get_or (outgoing links node) j 0 ≢ get_or (outgoing links node) k 0
out_apart links node j k low low' ne e = dite (dec_lt j k)
    (λ lt. let rise = outgoing-rises links node j k lt low' in absurd (omega (arith, rise, e)))
    (λ ge. let rise = outgoing-rises links node k j (omega (arith, ge, ne)) low in absurd (omega (arith, rise, e)))

module _ {B : Type 0} (links : List Link) (node : ℕ) where
  -- so far the first of the node's links are released, in their order
  pub record Going (count : ℕ) (old d : Duty B) : Type 0 where
    pub links_stay : d.links ≡ old.links
    pub before_stays : d.before ≡ old.before
    pub started_stay : d.started ≡ old.started
    pub held_are : d.held ≡ old.held
    pub left_stays : d.left ≡ old.left
    pub lower : (l : ℕ) → l < length links → (link_at links l).from < node → has d.released l ≡ has old.released l
    pub done : (j : ℕ) → j < count → j < length (outgoing links node) → has d.released (get_or (outgoing links node) j 0) ≡ true
    pub open_links : (j : ℕ) → count ≤ j → j < length (outgoing links node) → has d.released (get_or (outgoing links node) j 0) ≡ false

  pub going_first : (old : Duty B) → ((l : ℕ) → l < length links → (link_at links l).from ≡ node → has old.released l ≡ false) → Going 0 old old
  going_first old none = record {
    links_stay = refl;
    before_stays = refl;
    started_stay = refl;
    held_are = refl;
    left_stays = refl;
    lower = λ l low from. refl;
    done = λ j h low. absurd (omega (arith, h));
    open_links = λ j h low. let fact = out_fact links node j low in none (get_or (outgoing links node) j 0) fact.0 fact.1;
  }

  pub going_on : (count position : ℕ) (old d new : Duty B) → count < length (outgoing links node) → get_or (outgoing links node) count 0 ≡ position → new.links ≡ d.links → new.before ≡ d.before → new.started ≡ d.started → new.held ≡ d.held → new.left ≡ d.left
      → ((l : ℕ) → l < length links → (link_at links l).from ≤ node → has new.released l ≡ has (position ∷ d.released) l) → Going count old d → Going (count + 1) old new
  going_on count position old d new few is same_links same_before same_started same_held same_left released go =
      let mine : (link_at links position).from ≡ node = subst (λ q. (link_at links q).from ≡ node) is (out_fact links node count few).1 in record {
        links_stay = same_links ∙ go.links_stay;
        before_stays = same_before ∙ go.before_stays;
        started_stay = same_started ∙ go.started_stay;
        held_are = same_held ∙ go.held_are;
        left_stays = same_left ∙ go.left_stays;
        lower = λ l low from.
            let ne : position ≢ l = λ e. absurd (omega (arith, from, mine, ap (λ j. (link_at links j).from) e)) in
            released l low (omega (arith, from)) ∙ (has_skip position d.released l ne ∙ go.lower l low from);
        done = λ j h low.
            let fact = out_fact links node j low in
            let out = fact.1 in
            released (get_or (outgoing links node) j 0) fact.0 (omega (arith, out)) ∙ dite (ℕ_discrete j count)
            (λ e. ap (has (position ∷ d.released)) (ap (λ i. get_or (outgoing links node) i 0) e ∙ is) ∙ has_here position d.released)
            (λ ne. has_there position d.released (get_or (outgoing links node) j 0) (go.done j (omega (arith, h, ne)) low));
        open_links = λ j h low.
            let fact = out_fact links node j low in
            let out = fact.1 in
            let ne : position ≢ get_or (outgoing links node) j 0 = λ e. out_apart links node count j few low (λ z. absurd (omega (arith, h, z))) (is ∙ e) in
            released (get_or (outgoing links node) j 0) fact.0 (omega (arith, out)) ∙ (has_skip position d.released (get_or (outgoing links node) j 0) ne ∙ go.open_links j (omega (arith, h)) low);
      }

  pub going_none : (count position : ℕ) (old d new : Duty B) → count < length (outgoing links node) → get_or (outgoing links node) count 0 ≡ position → new ≡ with_released d position → Going count old d → Going (count + 1) old new
  going_none count position old d new few at is go = going_on count position old d new few at (ap (λ (e : Duty B). e.links) is) (ap (λ (e : Duty B). e.before) is) (ap (λ (e : Duty B). e.started) is) (ap (λ (e : Duty B). e.held) is) (ap (λ (e : Duty B). e.left) is) (λ l low from. ap (λ (e : Duty B). has e.released l) is) go

  pub going_some : (nodes count position next : ℕ) (old d mid new : Duty B) → AreLinks nodes links → count < length (outgoing links node) → get_or (outgoing links node) count 0 ≡ position → next ≡ (link_at links position).to → has d.held next ≡ false → mid ≡ with_held (with_released d position) next
      → IsRun links next mid new → Going count old d → Going (count + 1) old new
  going_some nodes count position next old d mid new are few at to off is run go =
      let fact = out_fact links node count few in
      let mine : (link_at links position).from ≡ node = subst (λ q. (link_at links q).from ≡ node) at fact.1 in
      let up : (link_at links position).from < (link_at links position).to = are.upward position no_link (subst (λ q. q < length links) at fact.0) in
      going_on count position old d new few at (run.links_stay ∙ ap (λ (e : Duty B). e.links) is) (run.before_stays ∙ ap (λ (e : Duty B). e.before) is) (run.started_stay ∙ ap (λ (e : Duty B). e.started) is)
      (run.held_are ∙ (ap (λ (e : Duty B). without next e.held) is ∙ gone next d.held off)) (run.left_stays ∙ ap (λ (e : Duty B). e.left) is)
      (λ l low' from. run.lower l low' (omega (arith, from, mine, to, up)) ∙ ap (λ (e : Duty B). has e.released l) is) go

  -- where all are released
  pub going_done : (count : ℕ) (old d : Duty B) → length (outgoing links node) ≤ count → Going count old d → (l : ℕ) → l < length links → (link_at links l).from ≡ node → has d.released l ≡ true
  going_done count old d all go l low from =
      let at = subst (λ n. (place_among links l < length (outgoing links n)) × (get_or (outgoing links n) (place_among links l) 0 ≡ l)) from (outgoing_at links l 0 low) in
      let few = at.0 in
      subst (λ q. has d.released q ≡ true) at.1 (go.done (place_among links l) (omega (arith, few, all)) few)

module _ {B : Type 0} (count number : ℕ) where
  -- of the share the nodes below this one were started, and none is held or left
  pub record Shared (node : ℕ) (old d : Duty B) : Type 0 where
    pub links_stay : d.links ≡ old.links
    pub before_stays : d.before ≡ old.before
    pub none_held : d.held ≡ []
    pub none_left : d.left ≡ []
    pub below_started : (n : ℕ) → n < node → n % count ≡ number → has d.started n ≡ true
    pub above : (n : ℕ) → node ≤ n → has d.started n ≡ false

  pub shared_skip : (node : ℕ) (old d : Duty B) → node % count ≢ number → Shared node old d → Shared (node + 1) old d
  shared_skip node old d ne s = record {
    links_stay = s.links_stay;
    before_stays = s.before_stays;
    none_held = s.none_held;
    none_left = s.none_left;
    below_started = λ n low mine. let apart : n ≢ node = λ is. ne (ap (λ j. j % count) (sym is) ∙ mine) in s.below_started n (omega (arith, low, apart)) mine;
    above = λ n h. s.above n (omega (arith, h));
  }

  pub shared_on : (node : ℕ) (old d new : Duty B) → new.links ≡ d.links → new.before ≡ d.before → new.held ≡ [] → new.left ≡ d.left → new.started ≡ node ∷ d.started → Shared node old d → Shared (node + 1) old new
  shared_on node old d new same_links same_before none same_left started s = record {
    links_stay = same_links ∙ s.links_stay;
    before_stays = same_before ∙ s.before_stays;
    none_held = none;
    none_left = same_left ∙ s.none_left;
    below_started = λ n low mine. ap (λ (l : List ℕ). has l n) started ∙ dite (ℕ_discrete node n)
        (λ is. ap (has (node ∷ d.started)) (sym is) ∙ has_here node d.started)
        (λ ne. has_there node d.started n (s.below_started n (omega (arith, low, ne)) mine));
    above = λ n h. let ne : node ≢ n = λ is. absurd (omega (arith, h, is)) in ap (λ (l : List ℕ). has l n) started ∙ (has_skip node d.started n ne ∙ s.above n (omega (arith, h)));
  }

  pub shared_none : (node : ℕ) (old d new : Duty B) → new ≡ with_started d node → Shared node old d → Shared (node + 1) old new
  shared_none node old d new is s = shared_on node old d new (ap (λ (e : Duty B). e.links) is) (ap (λ (e : Duty B). e.before) is) (ap (λ (e : Duty B). e.held) is ∙ s.none_held) (ap (λ (e : Duty B). e.left) is) (ap (λ (e : Duty B). e.started) is) s

  pub shared_some : (links : List Link) (node : ℕ) (old d mid new : Duty B) → has d.held node ≡ false → mid ≡ with_held (with_started d node) node → IsRun links node mid new → Shared node old d → Shared (node + 1) old new
  shared_some links node old d mid new off is run s =
      shared_on node old d new (run.links_stay ∙ ap (λ (e : Duty B). e.links) is) (run.before_stays ∙ ap (λ (e : Duty B). e.before) is)
      (run.held_are ∙ (ap (λ (e : Duty B). without node e.held) is ∙ (gone node d.held off ∙ s.none_held))) (run.left_stays ∙ ap (λ (e : Duty B). e.left) is) (run.started_stay ∙ ap (λ (e : Duty B). e.started) is) s

pub mapped_same : {A : Type 0} (f : A → ℕ) (xs ys : List A) → length ys ≡ length xs → ((k : ℕ) (d : A) → k < length xs → f (get_or ys k d) ≡ f (get_or xs k d)) → map f ys ≡ map f xs
mapped_same f [] [] long each = refl
mapped_same f [] (y ∷ ys) long each = absurd (omega (arith, long))
mapped_same f (x ∷ xs) [] long each = absurd (omega (arith, long))
mapped_same f (x ∷ xs) (y ∷ ys) long each = λ i. each 0 y (omega arith) i ∷ mapped_same f xs ys (omega (arith, long)) (λ k d low. each (suc k) d (omega (arith, low))) i

pub long_as : {A : Type 0} (f : A → ℕ) (all : List A) (count : ℕ) → map f all ≡ below count → length all ≡ count
long_as f all count numbers = sym (length-map all f) ∙ (ap length numbers ∙ length-below count)
