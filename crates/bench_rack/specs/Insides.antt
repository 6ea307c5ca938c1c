-- The fields of a rack, and what stays true of them. No public clause cites this module.
--     racked benches links      what contracts see
--     bench_among benches place      the bench at a place
--     IsWhole rack spare spare_links      every room is spare or in a bench, and there is space to give each back
use Rattle.std.specs.Prelude.{◌≡◌, ℕ, ◌+◌, ◌≤◌, List, ℤ, length, slice_index_or, vec_capacity}
use Rattle.std.specs.Global.{Vec}
use Rattle.jack_types.specs.declared.kinds.Kind.TheVariants.{Pass}
use Rattle.session_model.specs.Benches.{Signal}
use Rattle.bench_crew.specs.client_benches.specs.Seen.{Seen, new_bench}
use Rattle.bench_rack.specs.Racks.{Racked, link_total, wire_total}

abbrev pub racked : List Seen → ℕ → Racked
racked benches links = record { benches = benches; links = links }

abbrev pub bench_among : List Seen → ℕ → Seen
bench_among benches place = slice_index_or benches place (new_bench Pass 0)

pub record IsWhole (rack : Racked) (spare : Vec (List ℤ)) (spare_links : Vec (List Signal)) : Type 0 where
  pub wires : length spare.items + wire_total rack ≡ 512
  pub wire_space : 512 ≤ vec_capacity spare
  pub links : length spare_links.items + link_total rack ≡ rack.links
  pub link_space : rack.links ≤ vec_capacity spare_links
