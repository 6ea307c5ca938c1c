-- Steps of the loops that lay out a graph.
use Rattle.std.proofs.Common.{add-zero, append-nil, eqb, inl, inr, is_some, not, get_or-set_same, get_or-set_other, length-take-le, nat_lt, position, set, ◌⊎◌, ◌≡◌, ℕ, suc, ◌+◌, ◌<◌, ◌≤◌, Bool, true, false, cond, ◌==◌, ◌↔◌, List, [], ◌∷◌, ◌++◌, length, filter, filter_map, insert, get_or, take, All, Option, Some, None, refl, sym, ◌∙◌, ap, subst, arith, true≢false, eq-eqb, eqb-true}
use Rattle.std.specs.List.{cons_option, list_any, position_or_len}
use Rattle.std.specs.Option.{option_map_or}
use Rattle.std.proofs.lemmas.Bool.{cases_eq, cases_lt}
use Rattle.std.proofs.lemmas.Bool.Decides.{nat_tests}
use Rattle.std.proofs.lemmas.List.{length-append, take_more}
use Rattle.std.proofs.lemmas.List.Folds.{position_or_len_push}
use Rattle.std.proofs.lemmas.List.Sums.{fold_push}
use Rattle.std.proofs.lemmas.List.Elements.{All-nil, All-cons, All-head, All-tail, filter-append, filter_map-append}
use Rattle.graph_word.specs.jack_types.specs.declared.kinds.Kind.TheVariants.{Pass}
use Rattle.graph_word.specs.jack_types.specs.declared.ports.Client.{Client}
use Rattle.graph_word.specs.jack_types.specs.declared.ports.Edge.{Edge}
use Rattle.graph_word.specs.jack_types.specs.declared.ports.Link.{Link}
use Rattle.graph_word.specs.session_model.specs.Loops.{Leads, leads}
use Rattle.port_registry.specs.session_laws.proofs.LoopLemmas.{leads-is_Leads}
use Rattle.feedback_edges.specs.Search.{IsMarked, number_links}
use Rattle.cycle_plan.specs.Layouts.{distinct, is_player, ordered, with_node, with_link, same_link}
use Rattle.cycle_plan.specs.Searching.{client_number, numbers_lead, place_number}

bool-same : (a b : Bool) → (a ≡ true → b ≡ true) → (b ≡ true → a ≡ true) → a ≡ b
bool-same true b f g = sym (f refl)
bool-same false true f g = g refl
bool-same false false f g = refl

-- the first place that passes is where the client goes
with_node-insert : (test : Client → Bool) (leads_to : Client → Client → Bool) (client : Client) (nodes : List Client) → ((node : Client) → test node ≡ leads_to client node)
    → insert nodes (position_or_len test nodes) client ≡ with_node leads_to client nodes
with_node-insert test leads_to client [] same = refl
with_node-insert test leads_to client (node ∷ nodes) same = go (test node) (leads_to client node) (same node) (with_node-insert test leads_to client nodes same)
  where
    behind : insert (node ∷ nodes) (1 + position_or_len test nodes) client ≡ node ∷ insert nodes (position_or_len test nodes) client
    behind = ap (λ k. insert (node ∷ nodes) k client) (let next : 1 + position_or_len test nodes ≡ suc (position_or_len test nodes) = omega arith in next)

    go : (a b : Bool) → a ≡ b → insert nodes (position_or_len test nodes) client ≡ with_node leads_to client nodes
        → insert (node ∷ nodes) (cond (not a) (1 + position_or_len test nodes) 0) client ≡ cond b (client ∷ node ∷ nodes) (node ∷ with_node leads_to client nodes)
    go true true e rest = refl
    go false false e rest = behind ∙ ap (λ xs. node ∷ xs) rest
    go true false e rest = absurd (true≢false e)
    go false true e rest = absurd (true≢false (sym e))

-- what the search marks is what the client leads to
pub placed : (table : List ℕ) (edges : List Edge) (client : Client) (marked : List Bool) (nodes : List Client)
    → ((n : ℕ) → IsMarked marked n ↔ Leads (number_links table edges) (client_number client) n)
    → insert nodes (position_or_len (λ (node : Client). get_or marked (client_number node) false) nodes) client ≡ with_node (numbers_lead table edges) client nodes
placed table edges client marked nodes told = with_node-insert (λ (node : Client). get_or marked (client_number node) false) (numbers_lead table edges) client nodes same
  where
    test : (n : ℕ) → (leads (λ a b. a == b) (number_links table edges) (client_number client) n ≡ true) ↔ Leads (number_links table edges) (client_number client) n
    test n = leads-is_Leads (λ a b. a == b) (λ a b h. eqb-true a b h) (λ a. eq-eqb a a refl) (number_links table edges) (client_number client) n

    same : (node : Client) → get_or marked (client_number node) false ≡ numbers_lead table edges client node
    same node =
        bool-same (get_or marked (client_number node) false) (numbers_lead table edges client node)
        (λ m. (test (client_number node)).1 ((told (client_number node)).0 m)) (λ l. (told (client_number node)).1 ((test (client_number node)).0 l))

pub length-with_node : (leads_to : Client → Client → Bool) (client : Client) (nodes : List Client) → length (with_node leads_to client nodes) ≡ length nodes + 1
length-with_node leads_to client [] = refl
length-with_node leads_to client (node ∷ nodes) = go (leads_to client node) (length-with_node leads_to client nodes)
  where
    go : (b : Bool) → length (with_node leads_to client nodes) ≡ length nodes + 1 → length (cond b (client ∷ node ∷ nodes) (node ∷ with_node leads_to client nodes)) ≡ length (node ∷ nodes) + 1
    go true e = omega arith
    go false e = omega (arith, e)

pub All-with_node : (P : Client → Type 0) (leads_to : Client → Client → Bool) (client : Client) (nodes : List Client) → P client → All P nodes → All P (with_node leads_to client nodes)
All-with_node P leads_to client [] p all = All-cons P client [] p (All-nil P)
All-with_node P leads_to client (node ∷ nodes) p all = go (leads_to client node) (All-with_node P leads_to client nodes p (All-tail P node nodes all))
  where
    go : (b : Bool) → All P (with_node leads_to client nodes) → All P (cond b (client ∷ node ∷ nodes) (node ∷ with_node leads_to client nodes))
    go true rest = All-cons P client (node ∷ nodes) p all
    go false rest = All-cons P node (with_node leads_to client nodes) (All-head P node nodes all) rest

pub length-with_link : (links : List Link) (link : Link) → length (with_link links link) ≤ length links + 1
length-with_link links link = go (list_any (same_link link) links)
  where
    go : (b : Bool) → length (cond b links (links ++ link ∷ [])) ≤ length links + 1
    go true = omega arith
    go false = omega (arith, length-append links (link ∷ []))

-- a client for the places past the end
pub no_client : Client
no_client = record { id = record { 0 = 0 }; name = []; birth = 0; kind = Pass; active = false; slow = 0 }

pub place-within : {X : Type 0} (test : X → Bool) (xs : List X) → position_or_len test xs ≤ length xs
place-within test [] = omega arith
place-within test (x ∷ xs) = go (test x) (place-within test xs)
  where
    go : (b : Bool) → position_or_len test xs ≤ length xs → cond (not b) (1 + position_or_len test xs) 0 ≤ suc (length xs)
    go true h = omega arith
    go false h = omega (arith, h)

-- one client more of those that are gone over
pub ordered_more : (leads_to : Client → Client → Bool) (clients : List Client) (i : ℕ) (client : Client) (b : Bool) → i < length clients → client ≡ get_or clients i client → is_player client ≡ b
    → ordered leads_to (filter is_player (take (i + 1) clients))
    ≡ cond b (with_node leads_to client (ordered leads_to (filter is_player (take i clients)))) (ordered leads_to (filter is_player (take i clients)))
ordered_more leads_to clients i client b h at e =
    ap (λ xs. ordered leads_to (filter is_player xs)) (take_more clients i client h ∙ ap (λ x. take i clients ++ x ∷ []) (sym at))
    ∙ ap (ordered leads_to) (filter-append is_player (take i clients) (client ∷ []))
    ∙ go b e
  where
    go : (c : Bool) → is_player client ≡ c
        → ordered leads_to (filter is_player (take i clients) ++ filter is_player (client ∷ []))
        ≡ cond c (with_node leads_to client (ordered leads_to (filter is_player (take i clients)))) (ordered leads_to (filter is_player (take i clients)))
    go true p =
        ap (λ c. ordered leads_to (filter is_player (take i clients) ++ cond c (client ∷ []) [])) p
        ∙ fold_push (λ nodes x. with_node leads_to x nodes) [] (filter is_player (take i clients)) client
    go false p =
        ap (λ c. ordered leads_to (filter is_player (take i clients) ++ cond c (client ∷ []) [])) p
        ∙ ap (ordered leads_to) (append-nil (filter is_player (take i clients)))

-- one edge more of those that are gone over
pub links_more : (made : Edge → Option Link) (edges : List Edge) (i : ℕ) (d : Edge) (o : Option Link) → i < length edges → made (get_or edges i d) ≡ o
    → distinct (filter_map made (take (i + 1) edges)) ≡ option_map_or (with_link (distinct (filter_map made (take i edges)))) o (distinct (filter_map made (take i edges)))
links_more made edges i d o h e =
    ap (λ xs. distinct (filter_map made xs)) (take_more edges i d h)
    ∙ ap distinct (filter_map-append made (take i edges) (get_or edges i d ∷ []))
    ∙ ap (λ x. distinct (filter_map made (take i edges) ++ cons_option x [])) e
    ∙ go o
  where
    go : (x : Option Link) → distinct (filter_map made (take i edges) ++ cons_option x []) ≡ option_map_or (with_link (distinct (filter_map made (take i edges)))) x (distinct (filter_map made (take i edges)))
    go None = ap distinct (append-nil (filter_map made (take i edges)))
    go (Some link) = fold_push with_link [] (filter_map made (take i edges)) link

lt-true : (a b : ℕ) → a < b → nat_lt a b ≡ true
lt-true a b h = grind (arith, nat_tests)

lt-false : (a b : ℕ) → b ≤ a → nat_lt a b ≡ false
lt-false a b h = grind (arith, nat_tests)

module _ {X : Type 0} (test : X → Bool) where
  position-at : (xs : List X) → position_or_len test xs < length xs → position test xs ≡ Some (position_or_len test xs)
  position-at xs h = ap (λ b. cond b (Some (position_or_len test xs)) None) (lt-true (position_or_len test xs) (length xs) h)

  pub position-none : (xs : List X) → length xs ≤ position_or_len test xs → position test xs ≡ None
  position-none xs h = ap (λ b. cond b (Some (position_or_len test xs)) None) (lt-false (position_or_len test xs) (length xs) h)

  -- a place that was found stays
  position-kept : (xs : List X) (x : X) (k : ℕ) → position test xs ≡ Some k → position test (xs ++ x ∷ []) ≡ Some k
  position-kept xs x k e = go (cases_lt (position_or_len test xs) (length xs))
    where
      go : (position_or_len test xs < length xs) ⊎ (length xs ≤ position_or_len test xs) → position test (xs ++ x ∷ []) ≡ Some k
      go (inl less) =
          let apart : eqb (position_or_len test xs) (length xs) ≡ false = grind (arith, nat_tests) in
          let same : position_or_len test (xs ++ x ∷ []) ≡ position_or_len test xs =
          position_or_len_push test xs x ∙ ap (λ b. cond b (length xs + cond (test x) 0 1) (position_or_len test xs)) apart in
          position-at (xs ++ x ∷ []) (omega (arith, same, less, length-append xs (x ∷ []))) ∙ ap Some same ∙ sym (position-at xs less) ∙ e
      go (inr more) = let no-place : None ≡ Some k = sym (position-none xs more) ∙ e in cc

  -- where none was found, the new one may be it
  position-new : (xs : List X) (x : X) (b : Bool) → position test xs ≡ None → test x ≡ b → position test (xs ++ x ∷ []) ≡ cond b (Some (length xs)) None
  position-new xs x b e t = go (cases_lt (position_or_len test xs) (length xs))
    where
      go : (position_or_len test xs < length xs) ⊎ (length xs ≤ position_or_len test xs) → position test (xs ++ x ∷ []) ≡ cond b (Some (length xs)) None
      go (inl less) = let no-place : None ≡ Some (position_or_len test xs) = sym e ∙ position-at xs less in cc
      go (inr more) = at b t
        where
          least : position_or_len test xs ≡ length xs
          least = omega (arith, more, place-within test xs)

          end : eqb (position_or_len test xs) (length xs) ≡ true
          end = eq-eqb (position_or_len test xs) (length xs) least

          pushed : (c : Bool) → test x ≡ c → position_or_len test (xs ++ x ∷ []) ≡ length xs + cond c 0 1
          pushed c u = position_or_len_push test xs x ∙ ap (λ d. cond d (length xs + cond (test x) 0 1) (position_or_len test xs)) end ∙ ap (λ d. length xs + cond d 0 1) u

          size : length (xs ++ x ∷ []) ≡ length xs + 1
          size = length-append xs (x ∷ [])

          at : (c : Bool) → test x ≡ c → position test (xs ++ x ∷ []) ≡ cond c (Some (length xs)) None
          at true u = let here : position_or_len test (xs ++ x ∷ []) ≡ length xs = pushed true u ∙ add-zero (length xs) in position-at (xs ++ x ∷ []) (omega (arith, here, size)) ∙ ap Some here
          at false u = let past : position_or_len test (xs ++ x ∷ []) ≡ length xs + 1 = pushed false u in position-none (xs ++ x ∷ []) (omega (arith, past, size))

-- one node more whose place is kept
module _ (nodes : List Client) (i : ℕ) (client : Client) (places : List (Option ℕ)) (within : i < length nodes) (at : client ≡ get_or nodes i client) (size : length places ≡ 67) (low : client_number client < 67)
    (held : (n : ℕ) → n < 67 → get_or places n None ≡ place_number (take i nodes) n) where
  more-taken : take (i + 1) nodes ≡ take i nodes ++ client ∷ []
  more-taken = take_more nodes i client within ∙ ap (λ x. take i nodes ++ x ∷ []) (sym at)

  taken : length (take i nodes) ≡ i
  taken = length-take-le i nodes (omega (arith, within))

  some-none : (o : Option ℕ) → is_some o ≡ false → o ≡ None
  some-none None e = refl
  some-none (Some k) e = absurd (true≢false e)

  some-some : (o : Option ℕ) → is_some o ≡ true → (k : ℕ) × (o ≡ Some k)
  some-some None e = absurd (true≢false (sym e))
  some-some (Some k) e = (k, refl)

  -- another number's place
  other-place : (n : ℕ) → n < 67 → (client_number client ≡ n → ⊥) → place_number (take i nodes) n ≡ place_number (take i nodes ++ client ∷ []) n
  other-place n h apart = go (place_number (take i nodes) n) refl
    where
      fails : (client_number client == n) ≡ false
      fails = not-true (client_number client == n) (λ e. apart (eqb-true (client_number client) n e))
        where
          not-true : (b : Bool) → (b ≡ true → ⊥) → b ≡ false
          not-true true f = absurd (f refl)
          not-true false f = refl

      go : (o : Option ℕ) → place_number (take i nodes) n ≡ o → place_number (take i nodes) n ≡ place_number (take i nodes ++ client ∷ []) n
      go None e = e ∙ sym (position-new (λ (x : Client). client_number x == n) (take i nodes) client false e fails)
      go (Some k) e = e ∙ sym (position-kept (λ (x : Client). client_number x == n) (take i nodes) client k e)

  pub place_new : is_some (get_or places (client_number client) None) ≡ false → (n : ℕ) → n < 67 → get_or (set places (client_number client) (Some i)) n None ≡ place_number (take (i + 1) nodes) n
  place_new empty n h = go (cases_eq n (client_number client)) ∙ ap (λ xs. place_number xs n) (sym more-taken)
    where
      inside : client_number client < length places
      inside = omega (arith, low, size)

      first : place_number (take i nodes) (client_number client) ≡ None
      first = sym (held (client_number client) low) ∙ some-none (get_or places (client_number client) None) empty

      own : get_or (set places (client_number client) (Some i)) (client_number client) None ≡ place_number (take i nodes ++ client ∷ []) (client_number client)
      own =
          get_or-set_same places (client_number client) (Some i) None inside
          ∙ ap Some (sym taken)
          ∙ sym (position-new (λ (x : Client). client_number x == client_number client) (take i nodes) client true first (eq-eqb (client_number client) (client_number client) refl))

      go : (n ≡ client_number client) ⊎ (n ≡ client_number client → ⊥) → get_or (set places (client_number client) (Some i)) n None ≡ place_number (take i nodes ++ client ∷ []) n
      go (inl e) = subst (λ k. get_or (set places (client_number client) (Some i)) k None ≡ place_number (take i nodes ++ client ∷ []) k) (sym e) own
      go (inr apart) = get_or-set_other places (client_number client) n (Some i) None apart ∙ held n h ∙ other-place n h (λ e. apart (sym e))

  pub place_kept : is_some (get_or places (client_number client) None) ≡ true → (n : ℕ) → n < 67 → get_or places n None ≡ place_number (take (i + 1) nodes) n
  place_kept full n h = held n h ∙ go (cases_eq n (client_number client)) ∙ ap (λ xs. place_number xs n) (sym more-taken)
    where
      go : (n ≡ client_number client) ⊎ (n ≡ client_number client → ⊥) → place_number (take i nodes) n ≡ place_number (take i nodes ++ client ∷ []) n
      go (inl e) =
          let w = some-some (get_or places (client_number client) None) full in
          let there : place_number (take i nodes) (client_number client) ≡ Some w.0 = sym (held (client_number client) low) ∙ w.1 in
          subst (λ k. place_number (take i nodes) k ≡ place_number (take i nodes ++ client ∷ []) k) (sym e)
          (there ∙ sym (position-kept (λ (x : Client). client_number x == client_number client) (take i nodes) client w.0 there))
      go (inr apart) = other-place n h (λ e. apart (sym e))
