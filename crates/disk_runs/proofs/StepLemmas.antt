-- What each step at a disk leaves of its ring.
--     DiskMet      both ends know how far the other is, and what was put is of the file
--     met-tried      behind a try
--     pair-met      the ends are of one ring
--     tried-read, tried-told      a reading and a meeting are tries
use Rattle.std.proofs.Common.{◌≡◌, ℕ, List, [], ◌∷◌, sym, ◌∙◌, ap}
use Rattle.session_model.specs.Courses.{DiskFile}
use Rattle.session_model.specs.Rings.{RingBlock}
use Rattle.driver_words.specs.Rings.{Getting, IsPair, Sending}
use Rattle.disk_player.specs.Files.{HasPut, PlaysFile}
use Rattle.disk_player.specs.Playing.{Playing}
use Rattle.disk_player.specs.Turning.{PutsEach}
use Rattle.disk_player.proofs.FileLemmas.{has-put}
use Rattle.disk_files.specs.Readers.{TellsAhead}
use Rattle.disk_serving.specs.Serving.{IsSameRing}
use Rattle.disk_serving.proofs.TurnLemmas.{goes-more, goes-none}
use Rattle.disk_turns.proofs.TurnLemmas.{IsKnown, known-told, plays-told}
use Rattle.driver_laws.specs.Cycling.{DiskStays}
use Rattle.run_laws.specs.Sessions.{Session}
use Rattle.disk_runs.specs.Readings.{BrokeOff, DisksBroke, DisksRead, DisksTold, LeftAlone, ReadOn, TriedDisk}
use Rattle.disk_runs.specs.Rests.{DiskTells}

pub record DiskMet (player : Playing) (got : Getting) (after : Playing) (got_after : Getting) : Type 0 where
  pub tells : DiskTells after.sending got_after
  pub stays : DiskStays got got_after
  pub table : got_after.table ≡ got.table
  pub most : got_after.most ≡ got.most
  pub ring : IsSameRing player.sending after.sending
  pub put : (file : DiskFile) (period : ℕ) → PlaysFile file period player → HasPut file period after.sending

ring-on : (a b c : Sending) → IsSameRing a b → IsSameRing b c → IsSameRing a c
ring-on a b c one two = record {
  table = two.table ∙ one.table;
  capacity = two.capacity ∙ one.capacity;
  samples = two.samples ∙ one.samples;
  most = two.most ∙ one.most;
}

puts-ring : (before after : Sending) (blocks : List RingBlock) → PutsEach before blocks after → IsSameRing before after
puts-ring before after [] puts = record {
  table = ap (λ (s : Sending). s.table) puts;
  capacity = ap (λ (s : Sending). s.capacity) puts;
  samples = ap (λ (s : Sending). s.samples) puts;
  most = ap (λ (s : Sending). s.most) puts;
}
puts-ring before after (block ∷ blocks) puts =
    ring-on before puts.1 after
    (record {
      table = ap (λ (s : Sending). s.table) puts.2.after_is;
      capacity = ap (λ (s : Sending). s.capacity) puts.2.after_is;
      samples = ap (λ (s : Sending). s.samples) puts.2.after_is;
      most = ap (λ (s : Sending). s.most) puts.2.after_is;
    })
    (puts-ring puts.1 after blocks puts.3)

pub met-told : (player after : Playing) (got got_after : Getting) → TellsAhead player got after got_after → DiskMet player got after got_after
met-told player after got got_after tells = record {
  tells = record { front = known.front; over = known.over; looks = known.looks; finds = known.finds; told = known.told };
  stays = record {
    samples = ap (λ (g : Getting). g.samples) tells.tells.getting_is;
    got = ap (λ (g : Getting). g.got) tells.tells.getting_is;
    done = ap (λ (g : Getting). g.done) tells.tells.getting_is;
  };
  table = ap (λ (g : Getting). g.table) tells.tells.getting_is;
  most = ap (λ (g : Getting). g.most) tells.tells.getting_is;
  ring = record {
    table = ap (λ (s : Sending). s.table) tells.tells.sending_is;
    capacity = ap (λ (s : Sending). s.capacity) tells.tells.sending_is;
    samples = ap (λ (s : Sending). s.samples) tells.tells.sending_is;
    most = ap (λ (s : Sending). s.most) tells.tells.sending_is;
  };
  put = λ file period plays. has-put file period after (plays-told file period player after got got_after tells plays);
}
  where
    known : IsKnown after.sending got_after
    known = known-told player after got got_after tells

-- a turn before the meeting
met-turned : (player turned after : Playing) (got got_after : Getting) → IsSameRing player.sending turned.sending → TellsAhead turned got after got_after
    → ((file : DiskFile) (period : ℕ) → PlaysFile file period player → HasPut file period after.sending) → DiskMet player got after got_after
met-turned player turned after got got_after ring tells put =
    let met : DiskMet turned got after got_after = met-told turned after got got_after tells in
    record { tells = met.tells; stays = met.stays; table = met.table; most = met.most; ring = ring-on player.sending turned.sending after.sending ring met.ring; put = put }

pub met-tried : (most : ℕ) (player after : Playing) (got got_after : Getting) → TriedDisk most player got after got_after → DiskMet player got after got_after
met-tried most player after got got_after (ReadOn reads) =
    met-turned player reads.turned after got got_after (goes-more most player player reads.turned reads.turn (goes-none player) reads.turns).puts.ring reads.tells (λ file period plays. has-put file period after (reads.plays file period plays))
met-tried most player after got got_after (BrokeOff breaks) =
    met-turned player breaks.turned after got got_after (puts-ring player.sending breaks.turned.sending breaks.breaks.blocks breaks.breaks.puts) breaks.tells breaks.has_put
met-tried most player after got got_after (LeftAlone tells) = met-told player after got got_after tells

pub pair-met : (player after : Playing) (got got_after : Getting) → DiskMet player got after got_after → IsPair player.sending got → IsPair after.sending got_after
pair-met player after got got_after met pair = record {
  one = met.ring.table ∙ pair.one ∙ sym met.table;
  same_samples = met.ring.samples ∙ pair.same_samples ∙ sym met.stays.samples;
  same_most = met.ring.most ∙ pair.same_most ∙ sym met.most;
}

pub tried-read : (most : ℕ) (session after : Session) → DisksRead most session after → DisksBroke most session after
tried-read most session after reads = record {
  each = λ disk player player_after got got_after before behind. ReadOn (reads.each disk player player_after got got_after before behind);
  players = reads.players;
  disks = reads.disks;
  same = reads.same;
}

pub tried-told : (most : ℕ) (session after : Session) → DisksTold session after → DisksBroke most session after
tried-told most session after tells = record {
  each = λ disk player player_after got got_after before behind. LeftAlone (tells.each disk player player_after got got_after before behind);
  players = tells.players;
  disks = tells.disks;
  same = tells.same;
}
