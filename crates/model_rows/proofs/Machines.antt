-- The steps of worked rows on the publication machine and the ring machine.
use Rattle.std.proofs.Common.{◌≡◌, ℕ, [], ◌∷◌, pos, refl, false}
use Rattle.session_model.specs.Publication.{Publication, committed, loaded, taken, begun, noted}
use Rattle.session_model.specs.Rings.{RingBlock, Ring, held_in, with_put, with_got}

-- contents are numbers here
abbrev opening : Publication ℕ
opening = record { contents = 0 ∷ []; places = 0 ∷ 0 ∷ 0 ∷ []; word_place = 0; word_number = 0; reader_place = 1; reader_number = 0; publisher_place = 2; cycle_word = 0; rows = []; pairs = [] }

first_load : loaded opening ≡ 0
first_load = refl

abbrev one : Publication ℕ
one = taken (committed opening 1)

after_commit : loaded (committed opening 1) ≡ 1
after_commit = refl

again : loaded one ≡ 1
again = refl

seen : (noted (begun one 1)).pairs ≡ record { cycle = 1; number = 1 } ∷ []
seen = refl

-- two commits and one take
three : loaded (committed (committed (begun one 1) 2) 3) ≡ 3
three = refl

abbrev block : RingBlock
block = record { cycle = 1; samples = pos 5 ∷ [] }

abbrev one_place : Ring
one_place = record { put = []; got = []; ended = false; capacity = 1; most = 4 }

-- the block that was put is held until it is got
held : held_in (with_put one_place block) ≡ block ∷ []
held = refl

got : (with_got (with_put one_place block)).got ≡ block ∷ []
got = refl

emptied : held_in (with_got (with_put one_place block)) ≡ []
emptied = refl
