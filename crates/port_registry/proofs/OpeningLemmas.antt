-- The registry before any client opens.
use Rattle.std.proofs.Common.{◌≡◌, ℕ, zero, suc, ◌+◌, ◌<◌, ◌≤◌, Bool, true, false, cond, List, [], ◌∷◌, ◌++◌, codes, decimal, length, map, filter, find, count_by, Contains, Option, Some, None, inl, inr, ◌⊎◌, refl, sym, ◌∙◌, ap, ap₂, subst, arith, length-append}
use Rattle.std.specs.Fmt.{digits}
use Rattle.std.specs.Str.{bytes_eq}
use Rattle.std.proofs.lemmas.List.{append_assoc}
use Rattle.std.proofs.lemmas.List.Sums.{count_by-le-length}
use Rattle.session_laws.specs.jack_types.specs.Names.{client_part, port_name_fault, client_name_fault, IsPortName}
use Rattle.session_laws.specs.jack_types.specs.declared.ports.Client.{Client}
use Rattle.session_laws.specs.jack_types.specs.declared.ports.Port.{Port}
use Rattle.session_laws.specs.jack_types.specs.declared.ports.PortId.{PortId}
use Rattle.session_laws.specs.jack_types.specs.declared.ports.Way.{Way}
use Rattle.session_laws.specs.jack_types.specs.declared.ports.Way.TheVariants.{In, Out}
use Rattle.session_laws.specs.session_model.specs.Commands.{is_way}
use Rattle.session_laws.specs.session_model.specs.Ids.{open_port, open_ports}
use Rattle.session_laws.specs.session_model.specs.Samples.{below}
use Rattle.session_laws.specs.session_model.specs.Soundness.{Apart}
use Rattle.session_laws.specs.session_model.specs.State.{State, OpenPort, opening, capture_port, playback_port, system_name, system_client}
use Rattle.session_laws.proofs.ListLemmas.{Each, Each-append, Each-map, Each-all, Each-contains}
use Rattle.session_laws.proofs.LoopLemmas.{Contains-cases, Contains-later, Contains-first}
use Rattle.session_laws.proofs.LoopFreeLemmas.{Contains-append_cases}
use Rattle.session_laws.proofs.PlanLemmas.{IsSound-opening}
use Rattle.session_laws.proofs.SoundLemmas.{Apart-push, map-contains}
use Rattle.port_registry.specs.Kept.{ids_in, items_of, AreFree, IsListed}
use Rattle.port_registry.specs.Listings.{ids_of}
use Rattle.port_registry.specs.Registered.{Registered, IsRegistered, IsPlaced, open_client, state_of, is_of, system_entry, system_port, system_ports, unlisted, device_port}
use Rattle.session_laws.proofs.FilterLemmas.{map-push, length-filter_within, filter-same_all}
use Rattle.port_registry.proofs.PlaceLemmas.{length-mapped}
use Rattle.port_registry.proofs.RegisteredLemmas.{at_end}

none_below : {n : ℕ} → n < 0 → ⊥
none_below p = omega arith

past_eight : {n : ℕ} → suc (suc (suc (suc (suc (suc (suc (suc n))))))) < 8 → ⊥
past_eight p = omega (arith, p)

-- a channel's number has one digit
pub one_digit : (i : ℕ) → i < 8 → decimal (i + 1) ≡ (49 + i) ∷ []
unfolding digits
one_digit zero h = refl
one_digit (suc zero) h = refl
one_digit (suc (suc zero)) h = refl
one_digit (suc (suc (suc zero))) h = refl
one_digit (suc (suc (suc (suc zero)))) h = refl
one_digit (suc (suc (suc (suc (suc zero))))) h = refl
one_digit (suc (suc (suc (suc (suc (suc zero)))))) h = refl
one_digit (suc (suc (suc (suc (suc (suc (suc zero))))))) h = refl
one_digit (suc (suc (suc (suc (suc (suc (suc (suc i)))))))) h = absurd (past_eight h)

pub capture_is_name : (i : ℕ) → i < 8 → port_name_fault (codes "system:capture_" ++ (49 + i) ∷ []) ≡ None
capture_is_name zero h = refl
capture_is_name (suc zero) h = refl
capture_is_name (suc (suc zero)) h = refl
capture_is_name (suc (suc (suc zero))) h = refl
capture_is_name (suc (suc (suc (suc zero)))) h = refl
capture_is_name (suc (suc (suc (suc (suc zero))))) h = refl
capture_is_name (suc (suc (suc (suc (suc (suc zero)))))) h = refl
capture_is_name (suc (suc (suc (suc (suc (suc (suc zero))))))) h = refl
capture_is_name (suc (suc (suc (suc (suc (suc (suc (suc i)))))))) h = absurd (past_eight h)

pub playback_is_name : (i : ℕ) → i < 8 → port_name_fault (codes "system:playback_" ++ (49 + i) ∷ []) ≡ None
playback_is_name zero h = refl
playback_is_name (suc zero) h = refl
playback_is_name (suc (suc zero)) h = refl
playback_is_name (suc (suc (suc zero))) h = refl
playback_is_name (suc (suc (suc (suc zero)))) h = refl
playback_is_name (suc (suc (suc (suc (suc zero))))) h = refl
playback_is_name (suc (suc (suc (suc (suc (suc zero)))))) h = refl
playback_is_name (suc (suc (suc (suc (suc (suc (suc zero))))))) h = refl
playback_is_name (suc (suc (suc (suc (suc (suc (suc (suc i)))))))) h = absurd (past_eight h)

pub system_is_name : client_name_fault (codes "system") ≡ None
system_is_name = refl

-- ---- one more port of the device

pub below-more : (n : ℕ) → below (n + 1) ≡ below n ++ n ∷ []
below-more n = let e : n + 1 ≡ suc n = omega arith in ap below e

module _ (way : Way) (before : List Port) (n : ℕ) (ports : List Port) (id : PortId) (more : List Port) (e : more ≡ ports ++ (let p : Port = system_port way n in record p { id = id }) ∷ []) where
  pub listed-more : map unlisted ports ≡ before ++ map (system_port way) (below n) → map unlisted more ≡ before ++ map (system_port way) (below (n + 1))
  listed-more h = ap (map unlisted) e ∙ map-push unlisted ports _ ∙ ap (λ ps. ps ++ system_port way n ∷ []) h ∙ append_assoc before (map (system_port way) (below n)) (system_port way n ∷ [])
      ∙ ap (λ ps. before ++ ps) (sym (map-push (system_port way) (below n) n) ∙ ap (map (system_port way)) (sym (below-more n)))

  pub long-more : (k : ℕ) → length ports ≡ k + n → length more ≡ k + (n + 1)
  long-more k h = ap length e ∙ length-append ports (_ ∷ []) ∙ omega (arith, h)

  pub IsListed-more : (list longer : List ℕ) → IsListed ports list → Apart (λ (port : Port). port.id.0) more → id.0 < 2064 → longer ≡ list ++ id.0 ∷ [] → IsListed more longer
  IsListed-more list longer listed apart low l = record {
    ids = l ∙ ap (λ ns. ns ++ id.0 ∷ []) listed.ids ∙ sym (map-push (λ (port : Port). port.id.0) ports _) ∙ ap ids_of (sym e);
    apart = apart;
    low = λ port m. go port (at_end ports _ port (subst (λ ps. Contains ps port) e m));
  }
    where
      go : (port : Port) → Contains ports port ⊎ ((let p : Port = system_port way n in record p { id = id }) ≡ port) → port.id.0 < 2064
      go port (inl m) = listed.low port m
      go port (inr s) = subst (λ (p : Port). p.id.0 < 2064) s low

-- ---- one more free id

pub record AreBelow (free : List ℕ) (next : ℕ) : Type 0 where
  pub apart : Apart (λ (n : ℕ). n) free
  pub least : (n : ℕ) → Contains free n → 1 ≤ n
  pub less : (n : ℕ) → Contains free n → n < next
  pub long : length free + 1 ≡ next

pub AreBelow-more : (free : List ℕ) (next : ℕ) → 1 ≤ next → AreBelow free next → AreBelow (free ++ next ∷ []) (next + 1)
AreBelow-more free next first old = record {
  apart = Apart-push (λ (n : ℕ). n) free next old.apart (λ n m same. let low : n < next = old.less n m in below_itself n next low same);
  least = λ n m. at_least n (at_end free next n m);
  less = λ n m. at_most n (at_end free next n m);
  long = let long : length free + 1 ≡ next = old.long in let more : length (free ++ next ∷ []) ≡ length free + 1 = length-append free (next ∷ []) in omega (arith, long, more);
}
  where
    below_itself : (a b : ℕ) → a < b → a ≡ b → ⊥
    below_itself a b h e = omega (arith, h, e)

    at_least : (n : ℕ) → Contains free n ⊎ (next ≡ n) → 1 ≤ n
    at_least n (inl m) = old.least n m
    at_least n (inr e) = subst (λ k. 1 ≤ k) e first

    at_most : (n : ℕ) → Contains free n ⊎ (next ≡ n) → n < next + 1
    at_most n (inl m) = let low : n < next = old.less n m in omega (arith, low)
    at_most n (inr e) = omega (arith, e)

pub AreFree-all : (free : List ℕ) → AreBelow free 65 → AreFree free (system_entry ∷ [])
AreFree-all free all = record {
  apart = all.apart;
  unused = λ n m client k same. go n m client (Contains-cases system_entry client [] k) same;
  within = λ n m. let low : n < 65 = all.less n m in omega (arith, low);
  all_ids = let long : length free + 1 ≡ 65 = all.long in omega (arith, long);
}
  where
    zero_not : (n : ℕ) → 1 ≤ n → 0 ≡ n → ⊥
    zero_not n h e = omega (arith, h, e)

    go : (n : ℕ) → Contains free n → (client : Client) → (system_entry ≡ client) ⊎ Contains [] client → client.id.0 ≡ n → ⊥
    go n m client (inl e) same = zero_not n (all.least n m) (ap (λ (c : Client). c.id.0) e ∙ same)
    go n m client (inr k) same = none_below k.1

-- ---- the whole

module _ (capture playback : ℕ) (few_in : capture ≤ 8) (few_out : playback ≤ 8) (clients : List Client) (ports : List Port) (client_room port_room : ℕ)
    (alone : clients ≡ system_entry ∷ []) (all : map unlisted ports ≡ system_ports capture playback) where
  abbrev held : Registered
  held = record { clients = clients; ports = ports; client_room = client_room; port_room = port_room }

  unlisted-open : (ps : List Port) → open_ports (map unlisted ps) ≡ open_ports ps
  unlisted-open [] = refl
  unlisted-open (p ∷ ps) = ap (λ qs. open_port p ∷ qs) (unlisted-open ps)

  open-append : (ps qs : List Port) → open_ports (ps ++ qs) ≡ open_ports ps ++ open_ports qs
  open-append [] qs = refl
  open-append (p ∷ ps) qs = ap (λ rs. open_port p ∷ rs) (open-append ps qs)

  open-capture : (ns : List ℕ) → open_ports (map (system_port Out) ns) ≡ map capture_port ns
  open-capture [] = refl
  open-capture (n ∷ ns) = ap (λ rs. capture_port n ∷ rs) (open-capture ns)

  open-playback : (ns : List ℕ) → open_ports (map (system_port In) ns) ≡ map playback_port ns
  open-playback [] = refl
  open-playback (n ∷ ns) = ap (λ rs. playback_port n ∷ rs) (open-playback ns)

  opened-ports : open_ports ports ≡ (opening capture playback).ports
  opened-ports = sym (unlisted-open ports) ∙ ap open_ports all ∙ open-append (map (system_port Out) (below capture)) (map (system_port In) (below playback)) ∙ ap₂ (λ ps qs. ps ++ qs) (open-capture (below capture)) (open-playback (below playback))

  pub opened-state : state_of held ≡ opening capture playback
  opened-state i = record { clients = map (λ (c : Client). open_client c) (alone i); ports = opened-ports i; edges = []; master = None; timeout = None }

  Apart-unmapped : {X Y K : Type 0} (key : Y → K) (f : X → Y) (xs : List X) → Apart key (map f xs) → Apart (λ x. key (f x)) xs
  Apart-unmapped key f [] h = tt
  Apart-unmapped key f (x ∷ xs) h = (λ y m e. h.0 (f y) (map-contains f xs y m) e, Apart-unmapped key f xs h.1)

  placed-device : (way : Way) (n : ℕ) → IsPlaced (system_entry ∷ []) (system_port way n)
  placed-device Out n = record { client = system_entry; listed = Contains-first system_entry []; named = refl; noded = refl; activity = refl }
  placed-device In n = record { client = system_entry; listed = Contains-first system_entry []; named = refl; noded = refl; activity = refl }

  placed-all : Each (IsPlaced (system_entry ∷ [])) (system_ports capture playback)
  placed-all = Each-append (IsPlaced (system_entry ∷ [])) (map (system_port Out) (below capture)) (map (system_port In) (below playback))
      (Each-map (IsPlaced (system_entry ∷ [])) (system_port Out) (below capture) (Each-all (λ n. IsPlaced (system_entry ∷ []) (system_port Out n)) (placed-device Out) (below capture)))
      (Each-map (IsPlaced (system_entry ∷ [])) (system_port In) (below playback) (Each-all (λ n. IsPlaced (system_entry ∷ []) (system_port In n)) (placed-device In) (below playback)))

  placed-unlisted : (port : Port) → IsPlaced (system_entry ∷ []) (unlisted port) → IsPlaced (system_entry ∷ []) port
  placed-unlisted port p = record { client = p.client; listed = p.listed; named = p.named; noded = p.noded; activity = p.activity }

  placed : (port : Port) → Contains ports port → IsPlaced clients port
  placed port m = subst (λ cs. IsPlaced cs port) (sym alone)
      (placed-unlisted port (Each-contains (IsPlaced (system_entry ∷ [])) (system_ports capture playback) (unlisted port) placed-all (subst (λ ps. Contains ps (unlisted port)) all (map-contains unlisted ports port m))))

  module _ (list : List ℕ) (listed : IsListed ports list) (long : length ports ≤ 16) where
    IsRegistered-alone : IsRegistered (record { clients = system_entry ∷ []; ports = ports; client_room = client_room; port_room = port_room })
    IsRegistered-alone = record {
      system = refl;
      client_names = (λ y m e. none_below m.1, tt);
      client_ids = (λ y m e. none_below m.1, tt);
      port_names = Apart-unmapped (λ (p : OpenPort). p.name) open_port ports (subst (λ ps. Apart (λ (p : OpenPort). p.name) ps) (sym opened-ports) (IsSound-opening capture playback (omega (arith, few_in)) (omega (arith, few_out))).port_names);
      port_ids = listed.apart;
      placed = λ port m. subst (λ cs. IsPlaced cs port) alone (placed port m);
      client_ids_within = λ client m. go client (Contains-cases system_entry client [] m);
      port_ids_below = listed.low;
      few_clients = omega arith;
      few_ports = λ client way. fewer (count_by-le-length (λ port. is_way way (open_port port)) (filter (is_of client) ports)) (length-filter_within (is_of client) ports) long;
    }
      where
        go : (client : Client) → (system_entry ≡ client) ⊎ Contains [] client → client.id.0 ≤ 64
        go client (inl e) = subst (λ (c : Client). c.id.0 ≤ 64) e (omega arith)
        go client (inr k) = absurd (none_below k.1)

        fewer : {a b c d : ℕ} → a ≤ b → b ≤ c → c ≤ d → a ≤ d
        fewer h k q = omega (arith, h, k, q)

    pub IsRegistered-opening : IsRegistered held
    IsRegistered-opening = subst (λ cs. IsRegistered (record { clients = cs; ports = ports; client_room = client_room; port_room = port_room })) (sym alone) IsRegistered-alone

    pub all-theirs : list ≡ ids_in ports system_entry
    all-theirs = listed.ids ∙ ap ids_of (sym (filter-kept_all ports (λ port m. of_system (subst (λ cs. IsPlaced cs port) alone (placed port m)))))
      where
        of_system : {port : Port} → IsPlaced (system_entry ∷ []) port → is_of system_name port ≡ true
        of_system {port} p = go (Contains-cases system_entry p.client [] p.listed)
          where
            go : (system_entry ≡ p.client) ⊎ Contains [] p.client → is_of system_name port ≡ true
            go (inl e) = ap (λ n. bytes_eq n system_name) (sym p.named ∙ ap (λ (c : Client). c.name) (sym e))
            go (inr k) = absurd (none_below k.1)

        filter-kept_all : (ps : List Port) → ((port : Port) → Contains ps port → is_of system_name port ≡ true) → filter (is_of system_name) ps ≡ ps
        filter-kept_all [] h = refl
        filter-kept_all (p ∷ ps) h = ap (λ b. cond b (p ∷ filter (is_of system_name) ps) (filter (is_of system_name) ps)) (h p (Contains-first p ps)) ∙ ap (λ qs. p ∷ qs) (filter-kept_all ps (λ port m. h port (Contains-later p port ps m)))
