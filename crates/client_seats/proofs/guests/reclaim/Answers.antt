use Rattle.std.proofs.Common.{Some, refl, sym, ◌∙◌, ap, arith}
use Rattle.client_seats.specs.Seatings.{NoGuest, GuestPlays}
use Rattle.client_seats.proofs.PlaceLemmas.{open_within}
use Rattle.client_seats.proofs.guests.reclaim.Goals as goal

pub returns-then-number-guests-clause-refused : goal.returns-then-number-guests-clause-refused
returns-then-number-guests-clause-refused g c = λ _. NoGuest c.args.n c.args.guest (open_within c.args.nodes.now c.args.n c.requires.node) c.requires.none c.requires.asks
    (omega (arith, c.requires.seating.as_many_guests, c.if-number-guests.true, c.from-number.ensures, c.guests.ensures))

pub returns-then-has_birth-clause-refused : goal.returns-then-has_birth-clause-refused
returns-then-has_birth-clause-refused g c =
    let found = c.if-has_birth.ensures.yes refl in
    λ _. GuestPlays c.args.n c.args.guest found.0 c.in-Some.place (open_within c.args.nodes.now c.args.n c.requires.node) c.requires.none c.requires.asks
    (open_within c.args.nodes.now found.0 found.1) (c.in-Some.ensures.there.1 ∙ ap (λ birth. Some birth) (sym found.2)) c.in-Some.ensures.there.2

pub returns-clause-seated : goal.returns-clause-seated
returns-clause-seated g c = λ m q h. c.take_back.ensures.seated m q (open_within c.args.nodes.now m h)
