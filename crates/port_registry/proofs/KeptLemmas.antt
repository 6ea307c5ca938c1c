-- What a registry keeps stays in step as clients and ports come, go and change.
use Rattle.std.proofs.Common.{◌≡◌, ℕ, zero, suc, ◌+◌, ◌<◌, ◌≤◌, ◌==◌, Bool, true, false, cond, not, ◌&&◌, nat_eq, nat_lt, if◌then◌else◌, List, [], ◌∷◌, ◌++◌, length, map, filter, find, fold, position, remove, set, slice_get, get_or, take, drop, Contains, Option, Some, None, is_some, ◌⊎◌, inl, inr, refl, sym, ◌∙◌, ap, ap₂, subst, arith, true≢false, length-append}
use Rattle.std.specs.Option.{option_map}
use Rattle.std.specs.Str.{bytes_eq}
use Rattle.std.proofs.lemmas.Bool.Decides.{nat_tests}
use Rattle.std.proofs.lemmas.List.{map-set, append-nil}
use Rattle.arrayvec.specs.ArrayVec.{ArrayVec}
use Rattle.session_laws.specs.jack_types.specs.Names.{client_part}
use Rattle.session_laws.specs.jack_types.specs.declared.ports.Client.{Client}
use Rattle.session_laws.specs.jack_types.specs.declared.ports.Port.{Port}
use Rattle.session_laws.specs.jack_types.specs.declared.ports.PortId.{PortId}
use Rattle.session_laws.specs.session_model.specs.Soundness.{Apart}
use Rattle.session_laws.specs.session_model.specs.State.{is_system, system_name}
use Rattle.session_laws.proofs.CycleLemmas.{bytes_same}
use Rattle.session_laws.proofs.ListLemmas.{Each, filter-all, filter-twice, Each-all}
use Rattle.session_laws.proofs.LoopLemmas.{Contains-cases, Contains-later, Contains-first}
use Rattle.session_laws.proofs.LoopFreeLemmas.{Contains-append_cases, Contains-append_left, Contains-append_right}
use Rattle.session_laws.proofs.PlaceLemmas.{filter-contains, filter-keeps}
use Rattle.session_laws.proofs.SoundLemmas.{Apart-push, Apart-filter, Apart-same, contains-map}
use lib.Pointwise.{bytes_decides}
use Rattle.port_registry.specs.Kept.{ids_in, items_of, AreFree}
use Rattle.port_registry.specs.Listings.{ids_of, bears, without_id, without_number, with_id_active, with_number_active}
use Rattle.port_registry.specs.Registered.{Registered, IsRegistered, IsPlaced, has_name, is_named, is_of, client_by, port_by, without_client, with_active, with_slow, with_port, without_port, system_entry}
use Rattle.session_laws.proofs.FilterLemmas.{map-push, map-unchanged, filter-push, filter-same_all, find-map_after, some-mapped}
use Rattle.port_registry.proofs.PlaceLemmas.{some_same, none_some, IsOnlyAt, Apart-place, position-at, position-at-some, slice_get-contains, slice_get-below, slice_get-map_some, filter-empty, map-remove, map-same_all, set-mapped, length-mapped, remove-filter, set-map}
use Rattle.port_registry.proofs.RegisteredLemmas.{only_named, at_end, filter-passed, told, find_none-fresh}

number-same : (a b : ℕ) → nat_eq a b ≡ true → a ≡ b
number-same a b h = grind (arith, nat_tests)

number-is : (a b : ℕ) → a ≡ b → nat_eq a b ≡ true
number-is a b h = grind (arith, nat_tests)

-- ---- many ids at once

has_number : List ℕ → Port → Bool
has_number ids port = is_some (find (λ (n : ℕ). port.id.0 == n) ids)

has_number-cons : (n : ℕ) (ns : List ℕ) (port : Port) → has_number (n ∷ ns) port ≡ cond (port.id.0 == n) true (has_number ns port)
unfolding has_number
has_number-cons n ns port = go (port.id.0 == n)
  where
    go : (b : Bool) → is_some (cond b (Some n) (find (λ (m : ℕ). port.id.0 == m) ns)) ≡ cond b true (is_some (find (λ (m : ℕ). port.id.0 == m) ns))
    go true = refl
    go false = refl

fold-without : (ids : List ℕ) (ports : List Port) → fold without_number ports ids ≡ filter (λ port. not (has_number ids port)) ports
unfolding has_number
fold-without [] ports = sym (filter-all (λ port. not (has_number [] port)) ports (Each-all (λ port. not (has_number [] port) ≡ true) (λ port. refl) ports))
fold-without (n ∷ ns) ports = fold-without ns (without_number ports n) ∙ filter-twice (λ port. not (has_number ns port)) (λ port. not (bears (record { 0 = n }) port)) ports
    ∙ filter-same_all (λ port. not (bears (record { 0 = n }) port) && not (has_number ns port)) (λ port. not (has_number (n ∷ ns) port)) ports (λ port m. by port)
  where
    by : (port : Port) → (not (bears (record { 0 = n }) port) && not (has_number ns port)) ≡ not (has_number (n ∷ ns) port)
    by port = go (port.id.0 == n) ∙ ap not (sym (has_number-cons n ns port))
      where
        go : (b : Bool) → (not b && not (has_number ns port)) ≡ not (cond b true (has_number ns port))
        go true = refl
        go false = refl

fold-active : (active : Bool) (ids : List ℕ) (ports : List Port) → fold (with_number_active active) ports ids ≡ map (λ (port : Port). if has_number ids port then record port { active = active } else port) ports
unfolding has_number
fold-active active [] ports = sym (whole ports)
  where
    whole : (ps : List Port) → map (λ (port : Port). if has_number [] port then record port { active = active } else port) ps ≡ ps
    whole [] = refl
    whole (p ∷ ps) = ap (λ qs. p ∷ qs) (whole ps)
fold-active active (n ∷ ns) ports = fold-active active ns (with_number_active active ports n) ∙ twice ports
  where
    one : Port → Port
    one port = if bears (record { 0 = n }) port then record port { active = active } else port

    rest : Port → Port
    rest port = if has_number ns port then record port { active = active } else port

    all : Port → Port
    all port = if has_number (n ∷ ns) port then record port { active = active } else port

    same : (port : Port) → rest (one port) ≡ all port
    same port = go (port.id.0 == n) refl (has_number ns port) refl
      where
        go : (b : Bool) → (port.id.0 == n) ≡ b → (h : Bool) → has_number ns port ≡ h → rest (one port) ≡ all port
        go true e h f =
            ap (λ b. rest (cond b (record port { active = active }) port)) e
            ∙ again (has_number ns port)
            ∙ sym (ap (λ b. cond b (record port { active = active }) port) (has_number-cons n ns port ∙ ap (λ b. cond b true (has_number ns port)) e))
          where
            again : (g : Bool) → cond g (record port { active = active }) (record port { active = active }) ≡ record port { active = active }
            again true = refl
            again false = refl
        go false e h f =
            ap (λ b. rest (cond b (record port { active = active }) port)) e
            ∙ ap (λ b. cond b (record port { active = active }) port) (sym (has_number-cons n ns port ∙ ap (λ b. cond b true (has_number ns port)) e))

    twice : (ps : List Port) → map rest (map one ps) ≡ map all ps
    twice [] = refl
    twice (p ∷ ps) = ap₂ (λ q qs. q ∷ qs) (same p) (twice ps)

module _ (held : Registered) (r : IsRegistered held) where
  -- two ports of one id are one
  one_port : (p q : Port) → Contains held.ports p → Contains held.ports q → p.id.0 ≡ q.id.0 → p ≡ q
  one_port p q m k e = go held.ports r.port_ids m k
    where
      go : (ps : List Port) → Apart (λ (x : Port). x.id.0) ps → Contains ps p → Contains ps q → p ≡ q
      go [] a c d = absurd (none c.1)
        where
          none : {n : ℕ} → n < 0 → ⊥
          none h = omega arith
      go (x ∷ ps) a c d = by (Contains-cases x p ps c) (Contains-cases x q ps d) (go ps a.1)
        where
          by : (x ≡ p) ⊎ Contains ps p → (x ≡ q) ⊎ Contains ps q → (Contains ps p → Contains ps q → p ≡ q) → p ≡ q
          by (inl s) (inl t) rest = sym s ∙ t
          by (inl s) (inr t) rest = absurd (a.0 q t (ap (λ (y : Port). y.id.0) s ∙ e))
          by (inr s) (inl t) rest = absurd (a.0 p s (ap (λ (y : Port). y.id.0) t ∙ sym e))
          by (inr s) (inr t) rest = rest s t

  -- the ids of a client's ports are had by its ports alone
  number-of : (client : Client) (port : Port) → Contains held.ports port → has_number (ids_in held.ports client) port ≡ is_of client.name port
  unfolding has_number
  number-of client port m = ap is_some (find-map_after (λ (q : Port). q.id.0) (λ n. port.id.0 == n) theirs) ∙ some-mapped (λ (q : Port). q.id.0) (find (λ (q : Port). port.id.0 == q.id.0) theirs) ∙ go (is_of client.name port) refl
    where
      theirs : List Port
      theirs = filter (is_of client.name) held.ports

      there : (ps : List Port) → Contains ps port → is_some (find (λ (q : Port). port.id.0 == q.id.0) ps) ≡ true
      there [] c = absurd (none c.1)
        where
          none : {n : ℕ} → n < 0 → ⊥
          none h = omega arith
      there (q ∷ ps) c = by (port.id.0 == q.id.0) refl (Contains-cases q port ps c) (there ps)
        where
          by : (b : Bool) → (port.id.0 == q.id.0) ≡ b → (q ≡ port) ⊎ Contains ps port → (Contains ps port → is_some (find (λ (x : Port). port.id.0 == x.id.0) ps) ≡ true) → is_some (cond b (Some q) (find (λ (x : Port). port.id.0 == x.id.0) ps)) ≡ true
          by true t s rest = refl
          by false t (inl s) rest = absurd (true≢false (sym (number-is port.id.0 q.id.0 (ap (λ (x : Port). x.id.0) (sym s))) ∙ t))
          by false t (inr k) rest = rest k

      absent : (ps : List Port) → ((q : Port) → Contains ps q → port.id.0 ≡ q.id.0 → ⊥) → is_some (find (λ (q : Port). port.id.0 == q.id.0) ps) ≡ false
      absent [] h = refl
      absent (q ∷ ps) h = by (port.id.0 == q.id.0) refl (absent ps (λ x k e. h x (Contains-later q x ps k) e))
        where
          by : (b : Bool) → (port.id.0 == q.id.0) ≡ b → is_some (find (λ (x : Port). port.id.0 == x.id.0) ps) ≡ false → is_some (cond b (Some q) (find (λ (x : Port). port.id.0 == x.id.0) ps)) ≡ false
          by true t rest = absurd (h q (Contains-first q ps) (number-same port.id.0 q.id.0 t))
          by false t rest = rest

      go : (b : Bool) → is_of client.name port ≡ b → is_some (find (λ (q : Port). port.id.0 == q.id.0) theirs) ≡ b
      go true e = there theirs (filter-keeps (is_of client.name) held.ports port m e)
      go false e = absent theirs (λ q k same.
          true≢false (sym (ap (is_of client.name) (one_port port q m (filter-contains (is_of client.name) held.ports q k) same) ∙ filter-passed (is_of client.name) held.ports q k) ∙ e))

  pub ports-closed : (client : Client) → fold without_number held.ports (ids_in held.ports client) ≡ filter (λ port. not (is_of client.name port)) held.ports
  ports-closed client = fold-without (ids_in held.ports client) held.ports
      ∙ filter-same_all (λ port. not (has_number (ids_in held.ports client) port)) (λ port. not (is_of client.name port)) held.ports (λ port m. ap not (number-of client port m))

  pub ports-active : (client : Client) (active : Bool) → fold (with_number_active active) held.ports (ids_in held.ports client) ≡ map (λ (port : Port). if is_of client.name port then record port { active = active } else port) held.ports
  ports-active client active = fold-active active (ids_in held.ports client) held.ports
      ∙ map-same_all (λ (port : Port). if has_number (ids_in held.ports client) port then record port { active = active } else port) (λ (port : Port). if is_of client.name port then record port { active = active } else port) held.ports
      (λ port m. ap (λ b. cond b (record port { active = active }) port) (number-of client port m))

  pub ports-unregistered : (port : Port) → Contains held.ports port → without_id held.ports port.id ≡ filter (λ p. not (is_named port.name p)) held.ports
  ports-unregistered port m = filter-same_all (λ p. not (bears port.id p)) (λ p. not (is_named port.name p)) held.ports (λ p k. ap not (by p k (bears port.id p) refl (is_named port.name p) refl))
    where
      by_name : (p : Port) → Contains held.ports p → p.name ≡ port.name → p ≡ port
      by_name p k e = Apart-same (λ (x : Port). x.name) held.ports p port r.port_names k m e

      by : (p : Port) → Contains held.ports p → (a : Bool) → bears port.id p ≡ a → (b : Bool) → is_named port.name p ≡ b → a ≡ b
      by p k true e true f = refl
      by p k false e false f = refl
      by p k true e false f = absurd (true≢false (sym ((bytes_decides p.name port.name).1 (ap (λ (x : Port). x.name) (one_port p port k m (number-same p.id.0 port.id.0 e)))) ∙ f))
      by p k false e true f = absurd (true≢false (sym (number-is p.id.0 port.id.0 (ap (λ (x : Port). x.id.0) (by_name p k (bytes_same p.name port.name f)))) ∙ e))

  -- ---- the lists of clients

  pub list-at : (lists : List (ArrayVec ℕ)) → items_of lists ≡ map (ids_in held.ports) held.clients → (i : ℕ) (list : ArrayVec ℕ) (client : Client) → slice_get lists i ≡ Some list → slice_get held.clients i ≡ Some client → list.items ≡ ids_in held.ports client
  list-at lists indexed i list client e f = some_same (sym (slice_get-map_some (λ (l : ArrayVec ℕ). l.items) lists i list e) ∙ ap (λ xs. slice_get xs i) indexed ∙ slice_get-map_some (ids_in held.ports) held.clients i client f)

  pub lists-long : (lists : List (ArrayVec ℕ)) → items_of lists ≡ map (ids_in held.ports) held.clients → length lists ≡ length held.clients
  lists-long lists indexed = sym (length-mapped (λ (l : ArrayVec ℕ). l.items) lists) ∙ ap length indexed ∙ length-mapped (ids_in held.ports) held.clients

  pub indexed-opened : (lists : List (ArrayVec ℕ)) (list : ArrayVec ℕ) (new : Client) → items_of lists ≡ map (ids_in held.ports) held.clients → client_by held new.name ≡ None → list.items ≡ []
      → items_of (lists ++ list ∷ []) ≡ map (ids_in held.ports) (held.clients ++ new ∷ [])
  indexed-opened lists list new indexed none empty =
      map-push (λ (l : ArrayVec ℕ). l.items) lists list ∙ ap₂ (λ xs x. xs ++ x ∷ []) indexed (empty ∙ sym (ap ids_of (filter-empty (is_of new.name) held.ports (λ port m t. lone port t (r.placed port m))))) ∙ sym (map-push (ids_in held.ports) held.clients new)
    where
      lone : (port : Port) → is_of new.name port ≡ true → IsPlaced held.clients port → ⊥
      lone port t placed = find_none-fresh (has_name new.name) held.clients placed.client none placed.listed ((bytes_decides placed.client.name new.name).1 (placed.named ∙ bytes_same (client_part port.name) new.name t))

  -- filters one behind the other
  filter-kept : {X : Type 0} (p q : X → Bool) (xs : List X) → ((x : X) → p x ≡ true → q x ≡ true) → filter p (filter q xs) ≡ filter p xs
  filter-kept p q [] h = refl
  filter-kept {X} p q (x ∷ xs) h = go (q x) refl (p x) refl (filter-kept p q xs h)
    where
      go : (a : Bool) → q x ≡ a → (b : Bool) → p x ≡ b → filter p (filter q xs) ≡ filter p xs → filter p (cond a (x ∷ filter q xs) (filter q xs)) ≡ cond b (x ∷ filter p xs) (filter p xs)
      go true e true f rest = rw f (ap (λ ys. x ∷ ys) rest)
      go true e false f rest = rw f rest
      go false e true f rest = absurd (true≢false (sym (h x f) ∙ e))
      go false e false f rest = rest

  filter-commute : {X : Type 0} (p q : X → Bool) (xs : List X) → filter p (filter q xs) ≡ filter q (filter p xs)
  filter-commute p q [] = refl
  filter-commute {X} p q (x ∷ xs) = go (q x) refl (p x) refl (filter-commute p q xs)
    where
      go : (a : Bool) → q x ≡ a → (b : Bool) → p x ≡ b → filter p (filter q xs) ≡ filter q (filter p xs) → filter p (cond a (x ∷ filter q xs) (filter q xs)) ≡ filter q (cond b (x ∷ filter p xs) (filter p xs))
      go true e true f rest = rw (e, f) (ap (λ ys. x ∷ ys) rest)
      go true e false f rest = rw f rest
      go false e true f rest = rw e rest
      go false e false f rest = rest

  module _ (name : List ℕ) (i : ℕ) (client : Client) (p : position (has_name name) held.clients ≡ Some i) (e : slice_get held.clients i ≡ Some client) where
    pub its_name : has_name name client ≡ true
    its_name = let w = position-at (has_name name) held.clients i client p in ap (has_name name) (some_same (sym e ∙ w.0)) ∙ w.1

    pub its_name_is : client.name ≡ name
    its_name_is = bytes_same client.name name its_name

    abbrev only : Type 0
    only = IsOnlyAt (has_name name) held.clients i

    only_it : only
    only_it = only_named held r name i client e its_name

    pub clients-closed : remove held.clients i ≡ filter (λ c. not (has_name name c)) held.clients
    clients-closed = remove-filter (has_name name) held.clients i client e its_name only_it

    pub clients-set : (change : Client → Client) → set held.clients i (change client) ≡ map (λ c. if has_name name c then change c else c) held.clients
    clients-set change = set-map (has_name name) change held.clients i client e its_name only_it

    pub indexed-closed : (lists : List (ArrayVec ℕ)) → items_of lists ≡ map (ids_in held.ports) held.clients → items_of (remove lists i) ≡ map (ids_in (without_client name held).ports) (without_client name held).clients
    indexed-closed lists indexed = map-remove (λ (l : ArrayVec ℕ). l.items) lists i ∙ ap (λ xs. remove xs i) indexed ∙ sym (map-remove (ids_in held.ports) held.clients i) ∙ ap (map (ids_in held.ports)) clients-closed
        ∙ map-same_all (ids_in held.ports) (ids_in (without_client name held).ports) (without_client name held).clients (λ c m. ap ids_of (sym (kept c (filter-passed (λ d. not (has_name name d)) held.clients c m))))
      where
        kept : (c : Client) → not (has_name name c) ≡ true → filter (is_of c.name) (filter (λ port. not (is_of name port)) held.ports) ≡ filter (is_of c.name) held.ports
        kept c h = filter-kept (is_of c.name) (λ port. not (is_of name port)) held.ports (λ port t. ap not (told (is_of name port) (λ s.
            clash (has_name name c) h ((bytes_decides c.name name).1 (sym (bytes_same (client_part port.name) c.name t) ∙ bytes_same (client_part port.name) name s)))))
          where
            clash : (b : Bool) → not b ≡ true → b ≡ true → ⊥
            clash true g k = true≢false (sym g)
            clash false g k = true≢false (sym k)

    pub indexed-registered : (lists : List (ArrayVec ℕ)) (list : ArrayVec ℕ) (new : Port) → items_of lists ≡ map (ids_in held.ports) held.clients → is_of name new ≡ true → list.items ≡ ids_in held.ports client ++ new.id.0 ∷ []
        → items_of (set lists i list) ≡ map (ids_in (held.ports ++ new ∷ [])) held.clients
    indexed-registered lists list new indexed of items = map-set (λ (l : ArrayVec ℕ). l.items) lists i list ∙ ap (λ xs. set xs i list.items) indexed
        ∙ set-mapped (ids_in held.ports) (ids_in (held.ports ++ new ∷ [])) held.clients i client list.items e (here ∙ sym items) (λ k c f far. sym (elsewhere c (told (is_of c.name new) (λ t. far (only_it k c f ((bytes_decides c.name name).1 (sym (bytes_same (client_part new.name) c.name t) ∙ bytes_same (client_part new.name) name of)))))))
      where
        pushed : (c : Client) → ids_in (held.ports ++ new ∷ []) c ≡ ids_of (filter (is_of c.name) held.ports ++ cond (is_of c.name new) (new ∷ []) [])
        pushed c = ap ids_of (filter-push (is_of c.name) held.ports new)

        elsewhere : (c : Client) → is_of c.name new ≡ false → ids_in (held.ports ++ new ∷ []) c ≡ ids_in held.ports c
        elsewhere c t = pushed c ∙ ap (λ b. ids_of (filter (is_of c.name) held.ports ++ cond b (new ∷ []) [])) t ∙ ap ids_of (append-nil (filter (is_of c.name) held.ports))

        here : ids_in (held.ports ++ new ∷ []) client ≡ ids_in held.ports client ++ new.id.0 ∷ []
        here = pushed client ∙ ap (λ b. ids_of (filter (is_of client.name) held.ports ++ cond b (new ∷ []) [])) (ap (λ n. is_of n new) its_name_is ∙ of) ∙ map-push (λ (q : Port). q.id.0) (filter (is_of client.name) held.ports) new

    pub indexed-unregistered : (lists : List (ArrayVec ℕ)) (list : ArrayVec ℕ) (port_name : List ℕ) (j : ℕ) → items_of lists ≡ map (ids_in held.ports) held.clients → client_part port_name ≡ name
        → position (is_named port_name) (filter (is_of client.name) held.ports) ≡ Some j → list.items ≡ remove (ids_in held.ports client) j
        → items_of (set lists i list) ≡ map (ids_in (without_port port_name held).ports) held.clients
    indexed-unregistered lists list port_name j indexed of q items = map-set (λ (l : ArrayVec ℕ). l.items) lists i list ∙ ap (λ xs. set xs i list.items) indexed
        ∙ set-mapped (ids_in held.ports) (ids_in (without_port port_name held).ports) held.clients i client list.items e (here ∙ sym items) (λ k c f far. sym (elsewhere k c f far))
      where
        elsewhere : (k : ℕ) (c : Client) → slice_get held.clients k ≡ Some c → (k ≡ i → ⊥) → ids_in (without_port port_name held).ports c ≡ ids_in held.ports c
        elsewhere k c f far = ap ids_of (filter-kept (is_of c.name) (λ port. not (is_named port_name port)) held.ports (λ port t. ap not (told (is_named port_name port) (λ s.
            far (only_it k c f ((bytes_decides c.name name).1 (sym (bytes_same (client_part port.name) c.name t) ∙ ap client_part (bytes_same port.name port_name s) ∙ of)))))))

        here : ids_in (without_port port_name held).ports client ≡ remove (ids_in held.ports client) j
        here = go (position-at-some (is_named port_name) (filter (is_of client.name) held.ports) j q)
          where
            theirs : List Port
            theirs = filter (is_of client.name) held.ports

            go : (x : Port) × (slice_get theirs j ≡ Some x) → ids_in (without_port port_name held).ports client ≡ remove (ids_in held.ports client) j
            go w =
                let t = position-at (is_named port_name) theirs j w.0 q in
                let passes : is_named port_name w.0 ≡ true = ap (is_named port_name) (some_same (sym w.1 ∙ t.0)) ∙ t.1 in
                let alone : IsOnlyAt (is_named port_name) theirs j = λ k y f s. Apart-place (λ (x : Port). x.name) theirs k j y w.0 (Apart-filter (λ (x : Port). x.name) (is_of client.name) held.ports r.port_names) f w.1 (bytes_same y.name port_name s ∙ sym (bytes_same w.0.name port_name passes)) in
                ap ids_of (filter-commute (is_of client.name) (λ port. not (is_named port_name port)) held.ports ∙ sym (remove-filter (is_named port_name) theirs j w.0 w.1 passes alone)) ∙ map-remove (λ (x : Port). x.id.0) theirs j

  pub indexed-active : (lists : List (ArrayVec ℕ)) (name : List ℕ) (active : Bool) → items_of lists ≡ map (ids_in held.ports) held.clients → items_of lists ≡ map (ids_in (with_active name active held).ports) (with_active name active held).clients
  indexed-active lists name active indexed = indexed ∙ sym (go held.clients)
    where
      change : Port → Port
      change port = if is_of name port then record port { active = active } else port

      port-name : (port : Port) → (change port).name ≡ port.name
      port-name port = by (is_of name port)
        where
          by : (b : Bool) → (cond b (record port { active = active }) port).name ≡ port.name
          by true = refl
          by false = refl

      port-id : (port : Port) → (change port).id.0 ≡ port.id.0
      port-id port = by (is_of name port)
        where
          by : (b : Bool) → (cond b (record port { active = active }) port).id.0 ≡ port.id.0
          by true = refl
          by false = refl

      client-name : (c : Client) → (if has_name name c then record c { active = active } else c).name ≡ c.name
      client-name c = by (has_name name c)
        where
          by : (b : Bool) → (cond b (record c { active = active }) c).name ≡ c.name
          by true = refl
          by false = refl

      over : (n : List ℕ) (ps : List Port) → ids_of (filter (is_of n) (map change ps)) ≡ ids_of (filter (is_of n) ps)
      over n [] = refl
      over n (q ∷ ps) = by (is_of n q) (ap (λ m. bytes_eq (client_part m) n) (port-name q)) (over n ps)
        where
          by : (b : Bool) → is_of n (change q) ≡ b → ids_of (filter (is_of n) (map change ps)) ≡ ids_of (filter (is_of n) ps)
              → ids_of (cond (is_of n (change q)) (change q ∷ filter (is_of n) (map change ps)) (filter (is_of n) (map change ps))) ≡ ids_of (cond b (q ∷ filter (is_of n) ps) (filter (is_of n) ps))
          by true t rest = ap (λ b. ids_of (cond b (change q ∷ filter (is_of n) (map change ps)) (filter (is_of n) (map change ps)))) t ∙ ap₂ (λ x xs. x ∷ xs) (port-id q) rest
          by false t rest = ap (λ b. ids_of (cond b (change q ∷ filter (is_of n) (map change ps)) (filter (is_of n) (map change ps)))) t ∙ rest

      go : (cs : List Client) → map (ids_in (map change held.ports)) (map (λ (c : Client). if has_name name c then record c { active = active } else c) cs) ≡ map (ids_in held.ports) cs
      go [] = refl
      go (c ∷ cs) = ap₂ (λ x xs. x ∷ xs) (ap (λ n. ids_of (filter (is_of n) (map change held.ports))) (client-name c) ∙ over c.name held.ports) (go cs)

  pub indexed-slowed : (lists : List (ArrayVec ℕ)) (name : List ℕ) (cycles : ℕ) → items_of lists ≡ map (ids_in held.ports) held.clients → items_of lists ≡ map (ids_in held.ports) (with_slow name cycles held).clients
  indexed-slowed lists name cycles indexed = indexed ∙ sym (map-unchanged (ids_in held.ports) (λ (c : Client). if has_name name c then record c { slow = cycles } else c) (λ c. by c (has_name name c)) held.clients)
    where
      by : (c : Client) (b : Bool) → ids_in held.ports (cond b (record c { slow = cycles }) c) ≡ ids_in held.ports c
      by c true = refl
      by c false = refl

  -- ---- the ids that are free

  pub free-popped : (front : List ℕ) (id : ℕ) (new : Client) → AreFree (front ++ id ∷ []) held.clients → new.id.0 ≡ id → AreFree front (held.clients ++ new ∷ [])
  free-popped front id new free e = record {
    apart = fronts front free.apart;
    unused = λ n m c k same. by n m c same (at_end held.clients new c k);
    within = λ n m. free.within n (Contains-left front n m);
    all_ids = let total : length (front ++ id ∷ []) + length held.clients ≡ 65 = free.all_ids in
        let a : length (front ++ id ∷ []) ≡ length front + 1 = length-append front (id ∷ []) in
        let b : length (held.clients ++ new ∷ []) ≡ length held.clients + 1 = length-append held.clients (new ∷ []) in
        omega (arith, total, a, b);
  }
    where
      Contains-left : (xs : List ℕ) (n : ℕ) → Contains xs n → Contains (xs ++ id ∷ []) n
      Contains-left xs n m = Contains-append_left xs (id ∷ []) n m

      fronts : (xs : List ℕ) → Apart (λ (n : ℕ). n) (xs ++ id ∷ []) → Apart (λ (n : ℕ). n) xs
      fronts [] a = tt
      fronts (x ∷ xs) a = (λ y m same. a.0 y (Contains-left xs y m) same, fronts xs a.1)

      last : (xs : List ℕ) → Apart (λ (n : ℕ). n) (xs ++ id ∷ []) → (n : ℕ) → Contains xs n → n ≡ id → ⊥
      last [] a n m same = none m.1
        where
          none : {k : ℕ} → k < 0 → ⊥
          none h = omega arith
      last (x ∷ xs) a n m same = go (Contains-cases x n xs m) (last xs a.1 n)
        where
          go : (x ≡ n) ⊎ Contains xs n → (Contains xs n → n ≡ id → ⊥) → ⊥
          go (inl s) rest = a.0 id (Contains-append_right xs (id ∷ []) id (Contains-first id [])) (s ∙ same)
          go (inr k) rest = rest k same

      by : (n : ℕ) → Contains front n → (c : Client) → c.id.0 ≡ n → Contains held.clients c ⊎ (new ≡ c) → ⊥
      by n m c same (inl k) = free.unused n (Contains-left front n m) c k same
      by n m c same (inr s) = last front free.apart n m (sym same ∙ ap (λ (x : Client). x.id.0) (sym s) ∙ e)

  pub free-pushed : (free : List ℕ) (name : List ℕ) (i : ℕ) (client : Client) → AreFree free held.clients → position (has_name name) held.clients ≡ Some i → slice_get held.clients i ≡ Some client
      → AreFree (free ++ client.id.0 ∷ []) (without_client name held).clients
  free-pushed free name i client old p e = record {
    apart = Apart-push (λ (n : ℕ). n) free client.id.0 old.apart (λ n m same. old.unused n m client (slice_get-contains held.clients i client e) (sym same));
    unused = λ n m c k same. by n c (filter-contains (λ d. not (has_name name d)) held.clients c k) (filter-passed (λ d. not (has_name name d)) held.clients c k) same (at_end free client.id.0 n m);
    within = λ n m. low n (at_end free client.id.0 n m);
    all_ids = let total : length free + length held.clients ≡ 65 = old.all_ids in
        let a : length (free ++ client.id.0 ∷ []) ≡ length free + 1 = length-append free (client.id.0 ∷ []) in
        let b : length (filter (λ d. not (has_name name d)) held.clients) + 1 ≡ length held.clients = ap (λ xs. length xs + 1) (sym (clients-closed name i client p e)) ∙ shorter held.clients i client e in
        omega (arith, total, a, b);
  }
    where
      shorter : (cs : List Client) (k : ℕ) (c : Client) → slice_get cs k ≡ Some c → length (remove cs k) + 1 ≡ length cs
      shorter [] k c f = absurd (none_some f)
      shorter (d ∷ cs) zero c f = omega arith
      shorter (d ∷ cs) (suc k) c f = let rest : length (remove cs k) + 1 ≡ length cs = shorter cs k c f in omega (arith, rest)

      low : (n : ℕ) → Contains free n ⊎ (client.id.0 ≡ n) → n ≤ 64
      low n (inl m) = old.within n m
      low n (inr s) = subst (λ x. x ≤ 64) s (r.client_ids_within client (slice_get-contains held.clients i client e))

      by : (n : ℕ) (c : Client) → Contains held.clients c → not (has_name name c) ≡ true → c.id.0 ≡ n → Contains free n ⊎ (client.id.0 ≡ n) → ⊥
      by n c k h same (inl m) = old.unused n m c k same
      by n c k h same (inr s) = clash (has_name name c) h (ap (has_name name) (Apart-same (λ (x : Client). x.id.0) held.clients c client r.client_ids k (slice_get-contains held.clients i client e) (same ∙ sym s)) ∙ its_name name i client p e)
        where
          clash : (b : Bool) → not b ≡ true → b ≡ true → ⊥
          clash true g q = true≢false (sym g)
          clash false g q = true≢false (sym q)

  -- the same where clients change and keep their ids
  pub free-changed : (free : List ℕ) (change : Client → Client) → ((c : Client) → (change c).id.0 ≡ c.id.0) → AreFree free held.clients → AreFree free (map change held.clients)
  free-changed free change same_id old = record {
    apart = old.apart;
    unused = λ n m c k same. let w = contains-map change held.clients c k in old.unused n m w.0 w.1 (sym (same_id w.0) ∙ ap (λ (x : Client). x.id.0) w.2 ∙ same);
    within = old.within;
    all_ids = ap (λ n. length free + n) (length-mapped change held.clients) ∙ old.all_ids;
  }

  -- a client besides `system` makes two
  pub two_clients : (name : List ℕ) (i : ℕ) → position (has_name name) held.clients ≡ Some i → is_system name ≡ false → 2 ≤ length held.clients
  two_clients name i p other = go held.clients p r.system
    where
      go : (cs : List Client) → position (has_name name) cs ≡ Some i → find (has_name system_name) cs ≡ Some system_entry → 2 ≤ length cs
      go [] q f = absurd (none_some q)
      go (c ∷ d ∷ cs) q f = omega arith
      go (c ∷ []) q f = absurd (single (is_system c.name) refl (has_name name c) refl f q)
        where
          single : (a : Bool) → is_system c.name ≡ a → (b : Bool) → has_name name c ≡ b → find (has_name system_name) (c ∷ []) ≡ Some system_entry → position (has_name name) (c ∷ []) ≡ Some i → ⊥
          single false g b h u v = none_some (sym (ap (λ x. cond x (Some c) None) g) ∙ u)
          single true g true h u v = true≢false (sym ((bytes_decides name system_name).1 (sym (bytes_same c.name name h) ∙ bytes_same c.name system_name g)) ∙ other)
          single true g false h u v = none_some (sym (lost h) ∙ v)
            where
              lost : has_name name c ≡ false → position (has_name name) (c ∷ []) ≡ None
              lost k = ap (λ b. cond (nat_lt (cond (not b) (1 + 0) 0) 1) (Some (cond (not b) (1 + 0) 0)) None) k
