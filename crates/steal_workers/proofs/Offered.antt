-- What a seat knows once it offered a node, played one, or looked for all.
use Rattle.std.proofs.Common.{◌≡◌, ◌≢◌, ◌⊎◌, ℕ, ◌+◌, ◌<◌, ◌≤◌, true, false, List, [], ◌∷◌, length, get_or, refl, sym, ◌∙◌, ap, subst, inr, ⊎_elim, arith, true≢false, cond, eq-eqb, ne_eqb}
use mathlib.Core.Logic.{dite}
use native.Mathlib.Decide.{ℕ_discrete}
use Rattle.jack_types.specs.declared.ports.Link.{Link}
use Rattle.session_model.specs.Activation.{AreLinks, link_at, outgoing}
use Rattle.cycle_workers.specs.activation.specs.declared.views.Duty.{Duty}
use Rattle.cycle_workers.specs.activation.specs.Rule.{has}
use Rattle.cycle_workers.specs.activation.specs.Plays.{without}
use Rattle.cycle_workers.specs.activation.specs.Takens.{with_started, with_released, with_held, with_home, with_left, with_looked, AreBetween}
use Rattle.cycle_workers.specs.activation.proofs.Looking.{looked_on, looked_all, left_more}
use Rattle.cycle_workers.specs.activation.proofs.Testing.{has_skip, off_or_on}
use Rattle.cycle_workers.specs.Runs.{IsRun}
use Rattle.cycle_workers.proofs.Going.{Going, Shared, gone, has_without, going_none, going_some, shared_none, shared_some}
use Rattle.steal_workers.specs.declared.ends.Deque.{Deque}
use Rattle.steal_workers.specs.Steals.{KeepsDeque, LeavesAbove, IsOffered, IsPicked, HasWorked, HasSwept}

-- ---- what was left

not_without : (n : ℕ) (xs : List ℕ) → has (without n xs) n ≡ false
not_without n [] = refl
not_without n (x ∷ xs) = dite (ℕ_discrete x n)
    (λ e. ap (λ b. has (cond b (without n xs) (x ∷ without n xs)) n) (eq-eqb x n e) ∙ not_without n xs)
    (λ ne. ap (λ b. has (cond b (without n xs) (x ∷ without n xs)) n) (ne_eqb x n ne) ∙ (ap (λ b. cond b true (has (without n xs) n)) (ne_eqb x n ne) ∙ not_without n xs))

-- one node more was left, or it was looked for
pub left_one : (node nodes next : ℕ) (old mid new : List ℕ) → node < next → next < nodes → (new ≡ next ∷ mid) ⊎ (new ≡ without next mid) → LeavesAbove node nodes old mid → LeavesAbove node nodes old new
left_one node nodes next old mid new up low is all n h = ⊎_elim
    (λ (e : new ≡ next ∷ mid). dite (ℕ_discrete next n)
    (λ (at : next ≡ n). inr (subst (λ k. (node < k) × (k < nodes)) at (up, low)))
    (λ (ne : next ≢ n). all n (sym (has_skip next mid n ne) ∙ (sym (ap (λ l. has l n) e) ∙ h))))
    (λ (e : new ≡ without next mid). dite (ℕ_discrete n next)
    (λ (at : n ≡ next). absurd (true≢false (sym h ∙ (ap (λ l. has l n) e ∙ (ap (has (without next mid)) at ∙ not_without next mid)))))
    (λ (ne : n ≢ next). all n (sym (has_without next mid n ne) ∙ (sym (ap (λ l. has l n) e) ∙ h)))) is

pub left_same : (node nodes : ℕ) (old mid new : List ℕ) → new ≡ mid → LeavesAbove node nodes old mid → LeavesAbove node nodes old new
left_same node nodes old mid new is all n h = all n (sym (ap (λ l. has l n) is) ∙ h)

-- a list of nodes stays one
pub left_between : (node nodes : ℕ) (old new : List ℕ) → LeavesAbove node nodes old new → AreBetween 0 nodes old → AreBetween 0 nodes new
left_between node nodes old new more all n h = ⊎_elim (λ (x : has old n ≡ true). all n x) (λ (x : (node < n) × (n < nodes)). (omega arith, x.1)) (more n h)

pub between_without : (nodes node : ℕ) (old : List ℕ) → AreBetween 0 nodes old → AreBetween 0 nodes (without node old)
between_without nodes node old all n h = dite (ℕ_discrete n node)
    (λ (at : n ≡ node). absurd (true≢false (sym h ∙ (ap (has (without node old)) at ∙ not_without node old))))
    (λ (ne : n ≢ node). all n (sym (has_without node old n ne) ∙ h))

-- one node of a list of nodes was offered
pub offered_between : (nodes node : ℕ) (mid new : List ℕ) → node < nodes → (new ≡ node ∷ mid) ⊎ (new ≡ without node mid) → AreBetween 0 nodes mid → AreBetween 0 nodes new
offered_between nodes node mid new low is all = ⊎_elim (λ (e : new ≡ node ∷ mid). subst (AreBetween 0 nodes) (sym e) (left_more 0 nodes node mid (omega arith) low all)) (λ (e : new ≡ without node mid). subst (AreBetween 0 nodes) (sym e) (between_without nodes node mid all)) is

module _ {B : Type 0} where
  -- ---- a node was offered

  -- the push was refused, and the node was run
  pub ran : (links : List Link) (node : ℕ) (old mid picked new : Duty B) → mid ≡ with_left old node → has mid.held node ≡ false → picked ≡ with_held (with_looked mid node) node → IsRun links node picked new → IsOffered links node old new
  ran links node old mid picked new left off is run = record {
    links_stay = run.links_stay ∙ (ap (λ (d : Duty B). d.links) is ∙ ap (λ (d : Duty B). d.links) left);
    before_stays = run.before_stays ∙ (ap (λ (d : Duty B). d.before) is ∙ ap (λ (d : Duty B). d.before) left);
    started_stay = run.started_stay ∙ (ap (λ (d : Duty B). d.started) is ∙ ap (λ (d : Duty B). d.started) left);
    held_are = run.held_are ∙ (ap (λ (d : Duty B). without node d.held) is ∙ (gone node mid.held off ∙ ap (λ (d : Duty B). d.held) left));
    lower = λ l low from. run.lower l low from ∙ (ap (λ (d : Duty B). has d.released l) is ∙ ap (λ (d : Duty B). has d.released l) left);
  }

  -- ---- a played node, whose links are released one by one

  -- what the seat left stands beside
  abbrev pub beside : Duty B → Duty B → Duty B
  beside old d = record d { left = old.left }

  as_run : (links : List Link) (node : ℕ) (old mid new : Duty B) → IsOffered links node mid new → IsRun links node (beside old mid) (beside old new)
  as_run links node old mid new o = record {
    links_stay = o.links_stay;
    before_stays = o.before_stays;
    started_stay = o.started_stay;
    held_are = o.held_are;
    left_stays = refl;
    lower = o.lower;
  }

  pub offered_none : (links : List Link) (node count position : ℕ) (old d new : Duty B) → count < length (outgoing links node) → get_or (outgoing links node) count 0 ≡ position → new ≡ with_released d position → Going links node count old (beside old d) → Going links node (count + 1) old (beside old new)
  offered_none links node count position old d new few at is go = going_none links node count position old (beside old d) (beside old new) few at (ap (beside old) is) go

  pub offered_some : (links : List Link) (node nodes count position next : ℕ) (old d mid new : Duty B) → AreLinks nodes links → count < length (outgoing links node) → get_or (outgoing links node) count 0 ≡ position → next ≡ (link_at links position).to → has d.held next ≡ false → mid ≡ with_held (with_released d position) next
      → IsOffered links next mid new → Going links node count old (beside old d) → Going links node (count + 1) old (beside old new)
  offered_some links node nodes count position next old d mid new are few at to off is o go =
      going_some links node nodes count position next old (beside old d) (beside old mid) (beside old new) are few at to off (ap (beside old) is) (as_run links next old mid new o) go

  -- it is home
  pub came_home : (links : List Link) (node count : ℕ) (old d new : Duty B) → new ≡ with_home d node → Going links node count old (beside old d) → IsOffered links node old new
  came_home links node count old d new is go = record {
    links_stay = ap (λ (e : Duty B). e.links) is ∙ go.links_stay;
    before_stays = ap (λ (e : Duty B). e.before) is ∙ go.before_stays;
    started_stay = ap (λ (e : Duty B). e.started) is ∙ go.started_stay;
    held_are = ap (λ (e : Duty B). e.held) is ∙ ap (without node) go.held_are;
    lower = λ l low from. ap (λ (e : Duty B). has e.released l) is ∙ go.lower l low from;
  }

  -- ---- a node whose number a deque gave

  pub picked_none : (node nodes : ℕ) (old new : Duty B) → new ≡ with_looked old node → IsPicked node nodes old new
  picked_none node nodes old new is = record {
    links_stay = ap (λ (d : Duty B). d.links) is;
    before_stays = ap (λ (d : Duty B). d.before) is;
    started_stay = ap (λ (d : Duty B). d.started) is;
    held_stays = ap (λ (d : Duty B). d.held) is;
    looked = ap (λ (d : Duty B). has d.left node) is ∙ not_without node old.left;
    left = λ all. subst (AreBetween 0 nodes) (sym (ap (λ (d : Duty B). d.left) is)) (between_without nodes node old.left all);
  }

  pub picked_some : (links : List Link) (node nodes : ℕ) (old mid new : Duty B) → has old.held node ≡ false → mid ≡ with_held (with_looked old node) node → IsOffered links node mid new → LeavesAbove node nodes mid.left new.left → IsPicked node nodes old new
  picked_some links node nodes old mid new off is o more =
      let lefts : mid.left ≡ without node old.left = ap (λ (d : Duty B). d.left) is in record {
        links_stay = o.links_stay ∙ ap (λ (d : Duty B). d.links) is;
        before_stays = o.before_stays ∙ ap (λ (d : Duty B). d.before) is;
        started_stay = o.started_stay ∙ ap (λ (d : Duty B). d.started) is;
        held_stays = o.held_are ∙ (ap (λ (d : Duty B). without node d.held) is ∙ gone node old.held off);
        looked = off_or_on (has new.left node) (λ on. ⊎_elim (λ (x : has mid.left node ≡ true). true≢false (sym x ∙ (ap (λ l. has l node) lefts ∙ not_without node old.left))) (λ (x : (node < node) × (node < nodes)). absurd (let up = x.0 in omega (arith, up))) (more node on));
        left = λ all. left_between node nodes mid.left new.left more (subst (AreBetween 0 nodes) (sym lefts) (between_without nodes node old.left all));
      }

pub deque_stays : (old mid new : Deque) → KeepsDeque old mid → KeepsDeque mid new → KeepsDeque old new
deque_stays old mid new p q = record { same = q.same ∙ p.same; parts = q.parts ∙ p.parts }

module _ {B : Type 0} where
  -- ---- the share is started

  -- what the seat left stands aside
  abbrev pub aside : Duty B → Duty B
  aside d = record d { left = [] }

  pub started_none : (count number node : ℕ) (old d new : Duty B) → new ≡ with_started d node → Shared count number node old (aside d) → Shared count number (node + 1) old (aside new)
  started_none count number node old d new is s = shared_none count number node old (aside d) (aside new) (ap aside is) s

  pub started_some : (count number : ℕ) (links : List Link) (node : ℕ) (old d mid new : Duty B) → has d.held node ≡ false → mid ≡ with_held (with_started d node) node → IsOffered links node mid new → Shared count number node old (aside d) → Shared count number (node + 1) old (aside new)
  started_some count number links node old d mid new off is o s = shared_some count number links node old (aside d) (aside mid) (aside new) off (ap aside is) record {
    links_stay = o.links_stay;
    before_stays = o.before_stays;
    started_stay = o.started_stay;
    held_are = o.held_are;
    left_stays = refl;
    lower = o.lower;
  } s

  -- ---- a number that a deque gave was looked for

  pub worked_on : (nodes count number node : ℕ) (old mid new : Duty B) → IsPicked node nodes mid new → HasWorked nodes count number old mid → HasWorked nodes count number old new
  worked_on nodes count number node old mid new p h = record {
    links_stay = p.links_stay ∙ h.links_stay;
    before_stays = p.before_stays ∙ h.before_stays;
    started_all = λ n low mine. ap (λ l. has l n) p.started_stay ∙ h.started_all n low mine;
    none_held = p.held_stays ∙ h.none_held;
    left = p.left h.left;
  }

  -- ---- every node is looked for

  -- so far it looked for the first of the nodes
  pub record Sweeping (nodes node : ℕ) (old d : Duty B) : Type 0 where
    pub links_stay : d.links ≡ old.links
    pub before_stays : d.before ≡ old.before
    pub started_stay : d.started ≡ old.started
    pub none_held : d.held ≡ []
    pub left : AreBetween node nodes d.left

  pub swept_none : (nodes node : ℕ) (old d new : Duty B) → new ≡ with_looked d node → Sweeping nodes node old d → Sweeping nodes (node + 1) old new
  swept_none nodes node old d new is s = record {
    links_stay = ap (λ (e : Duty B). e.links) is ∙ s.links_stay;
    before_stays = ap (λ (e : Duty B). e.before) is ∙ s.before_stays;
    started_stay = ap (λ (e : Duty B). e.started) is ∙ s.started_stay;
    none_held = ap (λ (e : Duty B). e.held) is ∙ s.none_held;
    left = subst (AreBetween (node + 1) nodes) (sym (ap (λ (e : Duty B). e.left) is)) (looked_on node nodes d.left s.left);
  }

  pub swept_some : (links : List Link) (nodes node : ℕ) (old d mid new : Duty B) → has d.held node ≡ false → mid ≡ with_held (with_looked d node) node → IsRun links node mid new → Sweeping nodes node old d → Sweeping nodes (node + 1) old new
  swept_some links nodes node old d mid new off is run s = record {
    links_stay = run.links_stay ∙ (ap (λ (e : Duty B). e.links) is ∙ s.links_stay);
    before_stays = run.before_stays ∙ (ap (λ (e : Duty B). e.before) is ∙ s.before_stays);
    started_stay = run.started_stay ∙ (ap (λ (e : Duty B). e.started) is ∙ s.started_stay);
    none_held = run.held_are ∙ (ap (λ (e : Duty B). without node e.held) is ∙ (gone node d.held off ∙ s.none_held));
    left = subst (AreBetween (node + 1) nodes) (sym (run.left_stays ∙ ap (λ (e : Duty B). e.left) is)) (looked_on node nodes d.left s.left);
  }

  pub swept_all : (nodes node : ℕ) (old d : Duty B) → nodes ≤ node → Sweeping nodes node old d → HasSwept old d
  swept_all nodes node old d all s = record {
    links_stay = s.links_stay;
    before_stays = s.before_stays;
    started_stay = s.started_stay;
    none_held = s.none_held;
    none_left = looked_all node nodes d.left all s.left;
  }
