-- Seats of node after node.
--     seats-none      of no node
--     seats-more      one node more
use Rattle.std.proofs.Common.{◌≡◌, ◌≢◌, ℕ, zero, suc, ◌+◌, ◌<◌, ◌⊎◌, inl, inr, List, [], ◌∷◌, ◌++◌, get_or, length, set, Option, Some, None, get_or-set_other, get_or-set_same, length-append, length-set, refl, sym, ◌∙◌, ap, arith, subst}
use Rattle.std.proofs.lemmas.Bool.{cases_eq}
use Rattle.jack_types.specs.declared.ports.Client.{Client}
use Rattle.midi_seats.specs.declared.seating.Owned.{Owned}
use Rattle.midi_seats.specs.Seating.{HasSeat, SeatsAll, client_at, midi_code, no_owned, owner_of, seat_for, with_owner}
use Rattle.midi_seats.proofs.SeatLemmas.{seat-kind, seat-was, seat-within}

one : (a b : ℕ) → Some a ≡ Some b → a ≡ b
one a b e = cc

nothing-some : (a : ℕ) → None ≡ Some a → ⊥
nothing-some a e = cc

at-front : (seats : List (Option ℕ)) (seat : Option ℕ) (n : ℕ) → n < length seats → get_or (seats ++ seat ∷ []) n None ≡ get_or seats n None
at-front [] seat n h = absurd (omega (arith, h))
at-front (x ∷ seats) seat zero h = refl
at-front (x ∷ seats) seat (suc n) h = at-front seats seat n (omega (arith, h))

at-end : (seats : List (Option ℕ)) (seat : Option ℕ) → get_or (seats ++ seat ∷ []) (length seats) None ≡ seat
at-end [] seat = refl
at-end (x ∷ seats) seat = at-end seats seat

pub seats-none : (nodes : List Client) (before : List Owned) → SeatsAll nodes 0 [] before before
seats-none nodes before = record {
  as_many = refl;
  owns = λ n b h. absurd (omega (arith, h));
  kinds = λ n b h. absurd (omega (arith, h));
  none = λ n h. absurd (omega (arith, h));
  owned = λ b birth e. e;
  seated = λ b birth e. inl e;
  apart = λ apart. apart;
  codes = λ b. refl;
  benches = refl;
}

module _ (nodes : List Client) (k : ℕ) (seats : List (Option ℕ)) (before mid after : List Owned) (client : Client) (is : client ≡ client_at nodes k) (h : SeatsAll nodes k seats before mid) where
  long : (seat : Option ℕ) → length (seats ++ seat ∷ []) ≡ k + 1
  long seat = length-append seats (seat ∷ []) ∙ ap (λ n. n + 1) h.as_many

  front : (seat : Option ℕ) (n : ℕ) → n < k → get_or (seats ++ seat ∷ []) n None ≡ get_or seats n None
  front seat n low = at-front seats seat n (let same : length seats ≡ k = h.as_many in omega (arith, low, same))

  last : (seat : Option ℕ) → get_or (seats ++ seat ∷ []) k None ≡ seat
  last seat = ap (λ n. get_or (seats ++ seat ∷ []) n None) (sym h.as_many) ∙ at-end seats seat

  -- a seat stands where it stood
  still : (seat : Option ℕ) (n b : ℕ) → get_or seats n None ≡ Some b → get_or (seats ++ seat ∷ []) n None ≡ Some b
  still seat n b e = appended seats n e
    where
      appended : (xs : List (Option ℕ)) (m : ℕ) → get_or xs m None ≡ Some b → get_or (xs ++ seat ∷ []) m None ≡ Some b
      appended [] m f = absurd (nothing-some b f)
      appended (x ∷ xs) zero f = f
      appended (x ∷ xs) (suc m) f = appended xs m f

  module _ (kind : midi_code client.kind ≡ None) (same : after ≡ mid) where
    pub seats-without : SeatsAll nodes (k + 1) (seats ++ None ∷ []) before after
    seats-without = subst (SeatsAll nodes (k + 1) (seats ++ None ∷ []) before) (sym same) (record {
      as_many = long None;
      owns = λ n b low e. owns n b low (cases_eq n k) e;
      kinds = λ n b low e. kinds n b low (cases_eq n k) e;
      none = λ n low e. none n low (cases_eq n k) e;
      owned = h.owned;
      seated = λ b birth e. seated b birth (h.seated b birth e);
      apart = h.apart;
      codes = h.codes;
      benches = h.benches;
    })
      where
        owns : (n b : ℕ) → n < k + 1 → (n ≡ k) ⊎ (n ≢ k) → get_or (seats ++ None ∷ []) n None ≡ Some b → owner_of mid b ≡ Some (client_at nodes n).birth
        owns n b low (inl at) e = absurd (nothing-some b (sym (last None) ∙ ap (λ m. get_or (seats ++ None ∷ []) m None) (sym at) ∙ e))
        owns n b low (inr other) e = let less : n < k = omega (arith, low, other) in h.owns n b less (sym (front None n less) ∙ e)

        kinds : (n b : ℕ) → n < k + 1 → (n ≡ k) ⊎ (n ≢ k) → get_or (seats ++ None ∷ []) n None ≡ Some b → midi_code (client_at nodes n).kind ≡ Some (get_or mid b no_owned).code
        kinds n b low (inl at) e = absurd (nothing-some b (sym (last None) ∙ ap (λ m. get_or (seats ++ None ∷ []) m None) (sym at) ∙ e))
        kinds n b low (inr other) e = let less : n < k = omega (arith, low, other) in h.kinds n b less (sym (front None n less) ∙ e)

        none : (n : ℕ) → n < k + 1 → (n ≡ k) ⊎ (n ≢ k) → get_or (seats ++ None ∷ []) n None ≡ None → midi_code (client_at nodes n).kind ≡ None
        none n low (inl at) e = ap (λ m. midi_code (client_at nodes m).kind) at ∙ ap (λ (c : Client). midi_code c.kind) (sym is) ∙ kind
        none n low (inr other) e = let less : n < k = omega (arith, low, other) in h.none n less (sym (front None n less) ∙ e)

        seated : (b birth : ℕ) → (owner_of before b ≡ Some birth) ⊎ ((owner_of before b ≡ None) × (n : ℕ) × (get_or seats n None ≡ Some b))
            → (owner_of before b ≡ Some birth) ⊎ ((owner_of before b ≡ None) × (n : ℕ) × (get_or (seats ++ None ∷ []) n None ≡ Some b))
        seated b birth (inl e) = inl e
        seated b birth (inr w) = inr (w.0, w.1, still None w.1 b w.2)

  module _ (place code : ℕ) (kind : midi_code client.kind ≡ Some code) (seat : seat_for client.birth code mid ≡ Some place) where
    abbrev taken : Owned
    taken = record { code = (get_or mid place no_owned).code; owner = Some client.birth }

    abbrev new : List Owned
    new = set mid place taken

    within : place < length mid
    within = seat-within mid client.birth code place seat

    there : get_or (set mid place taken) place no_owned ≡ taken
    there = get_or-set_same mid place taken no_owned within

    elsewhere : (b : ℕ) → b ≢ place → get_or (set mid place taken) b no_owned ≡ get_or mid b no_owned
    elsewhere b other = get_or-set_other mid place b taken no_owned other

    -- who owned a bench still does
    kept : (b birth : ℕ) → owner_of mid b ≡ Some birth → owner_of (set mid place taken) b ≡ Some birth
    kept b birth e = go (cases_eq b place) (seat-was mid client.birth code place seat)
      where
        go : (b ≡ place) ⊎ (b ≢ place) → (owner_of mid place ≡ Some client.birth) ⊎ ((owner_of mid place ≡ None) × ((c : ℕ) → owner_of mid c ≡ Some client.birth → ⊥)) → owner_of (set mid place taken) b ≡ Some birth
        go (inr other) was = ap (λ (bench : Owned). bench.owner) (elsewhere b other) ∙ e
        go (inl at) (inl own) = ap (owner_of new) at ∙ ap (λ (bench : Owned). bench.owner) there ∙ sym own ∙ ap (owner_of mid) (sym at) ∙ e
        go (inl at) (inr free) = absurd (nothing-some birth (sym free.0 ∙ ap (owner_of mid) (sym at) ∙ e))

    code-kept : (b : ℕ) → (get_or (set mid place taken) b no_owned).code ≡ (get_or mid b no_owned).code
    code-kept b = go (cases_eq b place)
      where
        go : (b ≡ place) ⊎ (b ≢ place) → (get_or (set mid place taken) b no_owned).code ≡ (get_or mid b no_owned).code
        go (inl at) = ap (λ c. (get_or new c no_owned).code) at ∙ ap (λ (bench : Owned). bench.code) there ∙ ap (λ c. (get_or mid c no_owned).code) (sym at)
        go (inr other) = ap (λ (bench : Owned). bench.code) (elsewhere b other)

    pub seats-with : after ≡ with_owner client.birth (Some place) mid → SeatsAll nodes (k + 1) (seats ++ Some place ∷ []) before after
    seats-with same = subst (SeatsAll nodes (k + 1) (seats ++ Some place ∷ []) before) (sym same) (record {
      as_many = long (Some place);
      owns = λ n b low e. owns n b low (cases_eq n k) e;
      kinds = λ n b low e. kinds n b low (cases_eq n k) e;
      none = λ n low e. none n low (cases_eq n k) e;
      owned = λ b birth e. kept b birth (h.owned b birth e);
      seated = λ b birth e. seated b birth (cases_eq b place) e;
      apart = λ apart b c birth e f. apart-now (h.apart apart) b c birth (cases_eq b place) (cases_eq c place) e f;
      codes = λ b. code-kept b ∙ h.codes b;
      benches = length-set mid place taken ∙ h.benches;
    })
      where
        owns : (n b : ℕ) → n < k + 1 → (n ≡ k) ⊎ (n ≢ k) → get_or (seats ++ Some place ∷ []) n None ≡ Some b → owner_of (set mid place taken) b ≡ Some (client_at nodes n).birth
        owns n b low (inl at) e =
            let its : place ≡ b = one place b (sym (last (Some place)) ∙ ap (λ m. get_or (seats ++ Some place ∷ []) m None) (sym at) ∙ e) in
            ap (owner_of new) (sym its) ∙ ap (λ (bench : Owned). bench.owner) there ∙ ap (λ (c : Client). Some c.birth) (is ∙ ap (client_at nodes) (sym at))
        owns n b low (inr other) e = let less : n < k = omega (arith, low, other) in kept b (client_at nodes n).birth (h.owns n b less (sym (front (Some place) n less) ∙ e))

        kinds : (n b : ℕ) → n < k + 1 → (n ≡ k) ⊎ (n ≢ k) → get_or (seats ++ Some place ∷ []) n None ≡ Some b → midi_code (client_at nodes n).kind ≡ Some (get_or (set mid place taken) b no_owned).code
        kinds n b low (inl at) e =
            let its : place ≡ b = one place b (sym (last (Some place)) ∙ ap (λ m. get_or (seats ++ Some place ∷ []) m None) (sym at) ∙ e) in
            ap (λ (c : Client). midi_code c.kind) (ap (client_at nodes) at ∙ sym is) ∙ kind ∙ ap Some (sym (seat-kind mid client.birth code place seat)) ∙ ap Some (sym (code-kept place)) ∙ ap (λ c. Some (get_or new c no_owned).code) its
        kinds n b low (inr other) e = let less : n < k = omega (arith, low, other) in h.kinds n b less (sym (front (Some place) n less) ∙ e) ∙ ap Some (sym (code-kept b))

        none : (n : ℕ) → n < k + 1 → (n ≡ k) ⊎ (n ≢ k) → get_or (seats ++ Some place ∷ []) n None ≡ None → midi_code (client_at nodes n).kind ≡ None
        none n low (inl at) e = absurd (nothing-some place (sym e ∙ ap (λ m. get_or (seats ++ Some place ∷ []) m None) at ∙ last (Some place)))
        none n low (inr other) e = let less : n < k = omega (arith, low, other) in h.none n less (sym (front (Some place) n less) ∙ e)

        later : (b birth : ℕ) → (owner_of before b ≡ Some birth) ⊎ ((owner_of before b ≡ None) × (n : ℕ) × (get_or seats n None ≡ Some b))
            → (owner_of before b ≡ Some birth) ⊎ ((owner_of before b ≡ None) × (n : ℕ) × (get_or (seats ++ Some place ∷ []) n None ≡ Some b))
        later b birth (inl e) = inl e
        later b birth (inr w) = inr (w.0, w.1, still (Some place) w.1 b w.2)

        -- nobody's bench was nobody's before
        unowned : (owner : Option ℕ) → owner_of before place ≡ owner → owner_of mid place ≡ None → owner_of before place ≡ None
        unowned None e f = e
        unowned (Some other) e f = absurd (nothing-some other (sym f ∙ h.owned place other e))

        seated : (b birth : ℕ) → (b ≡ place) ⊎ (b ≢ place) → owner_of (set mid place taken) b ≡ Some birth
            → (owner_of before b ≡ Some birth) ⊎ ((owner_of before b ≡ None) × (n : ℕ) × (get_or (seats ++ Some place ∷ []) n None ≡ Some b))
        seated b birth (inr other) e = later b birth (h.seated b birth (ap (λ (bench : Owned). bench.owner) (sym (elsewhere b other)) ∙ e))
        seated b birth (inl at) e = go (seat-was mid client.birth code place seat)
          where
            go : (owner_of mid place ≡ Some client.birth) ⊎ ((owner_of mid place ≡ None) × ((c : ℕ) → owner_of mid c ≡ Some client.birth → ⊥))
                → (owner_of before b ≡ Some birth) ⊎ ((owner_of before b ≡ None) × (n : ℕ) × (get_or (seats ++ Some place ∷ []) n None ≡ Some b))
            go (inl own) = later b birth (h.seated b birth (ap (owner_of mid) at ∙ own ∙ sym (ap (λ (bench : Owned). bench.owner) there) ∙ ap (owner_of new) (sym at) ∙ e))
            go (inr free) = inr (ap (owner_of before) at ∙ unowned (owner_of before place) refl free.0, k, last (Some place) ∙ ap Some (sym at))

        apart-now : ((b c birth : ℕ) → owner_of mid b ≡ Some birth → owner_of mid c ≡ Some birth → b ≡ c) → (b c birth : ℕ) → (b ≡ place) ⊎ (b ≢ place) → (c ≡ place) ⊎ (c ≢ place)
            → owner_of (set mid place taken) b ≡ Some birth → owner_of (set mid place taken) c ≡ Some birth → b ≡ c
        apart-now apart b c birth (inl at) (inl also) e f = at ∙ sym also
        apart-now apart b c birth (inr other) (inr another) e f = apart b c birth (ap (λ (bench : Owned). bench.owner) (sym (elsewhere b other)) ∙ e) (ap (λ (bench : Owned). bench.owner) (sym (elsewhere c another)) ∙ f)
        apart-now apart b c birth (inl at) (inr other) e f = absurd (twice c birth other (sym (ap (λ (bench : Owned). bench.owner) there) ∙ ap (owner_of new) (sym at) ∙ e) f (seat-was mid client.birth code place seat))
          where
            twice : (d born : ℕ) → d ≢ place → Some client.birth ≡ Some born → owner_of (set mid place taken) d ≡ Some born → (owner_of mid place ≡ Some client.birth) ⊎ ((owner_of mid place ≡ None) × ((x : ℕ) → owner_of mid x ≡ Some client.birth → ⊥)) → ⊥
            twice d born apart_from its held (inl own) = apart_from (apart d place born (ap (λ (bench : Owned). bench.owner) (sym (elsewhere d apart_from)) ∙ held) (own ∙ its))
            twice d born apart_from its held (inr free) = free.1 d (ap (λ (bench : Owned). bench.owner) (sym (elsewhere d apart_from)) ∙ held ∙ sym its)
        apart-now apart b c birth (inr other) (inl at) e f = absurd (twice b birth other (sym (ap (λ (bench : Owned). bench.owner) there) ∙ ap (owner_of new) (sym at) ∙ f) e (seat-was mid client.birth code place seat))
          where
            twice : (d born : ℕ) → d ≢ place → Some client.birth ≡ Some born → owner_of (set mid place taken) d ≡ Some born → (owner_of mid place ≡ Some client.birth) ⊎ ((owner_of mid place ≡ None) × ((x : ℕ) → owner_of mid x ≡ Some client.birth → ⊥)) → ⊥
            twice d born apart_from its held (inl own) = apart_from (apart d place born (ap (λ (bench : Owned). bench.owner) (sym (elsewhere d apart_from)) ∙ held) (own ∙ its))
            twice d born apart_from its held (inr free) = free.1 d (ap (λ (bench : Owned). bench.owner) (sym (elsewhere d apart_from)) ∙ held ∙ sym its)

  pub seats-more : (seat : Option ℕ) → HasSeat mid after client seat → SeatsAll nodes (k + 1) (seats ++ seat ∷ []) before after
  seats-more None has = seats-without has.0 has.1
  seats-more (Some place) has = seats-with place has.0 has.1 has.2 has.3
