-- What the structs of the two ends keep. No public clause cites this module.
use Rattle.std.specs.Prelude.{◌≡◌, ℕ, ◌≤◌, ◌<◌, ◌^◌, true, false, [], length}
use Rattle.std.specs.Arc.{arc_value}
use Rattle.atomic_table.specs.Seated.{TableId}
use Rattle.record_ring.specs.declared.view.SeatView.{SeatView}
use Rattle.record_ring.specs.declared.producer.Producer.TheInside.{Inside as Producer}
use Rattle.record_ring.specs.declared.consumer.Consumer.TheInside.{Inside as Consumer}
use Rattle.driver_words.specs.Rings.{Sending, Getting, items_of}

abbrev pub sending_of : TableId → ℕ → SeatView → Sending
sending_of table capacity v = record {
  table = table;
  capacity = capacity;
  samples = v.size.samples;
  most = v.size.most;
  put = v.producer.put;
  looks = v.producer.looks;
  least = v.producer.least;
  ended = v.producer.ended;
}

abbrev pub getting_of : TableId → SeatView → Getting
getting_of table v = record {
  table = table;
  samples = v.size.samples;
  most = v.size.most;
  got = v.consumer.got;
  finds = v.consumer.finds;
  least = v.consumer.least;
  told = v.consumer.told;
  done = v.consumer.done;
}

-- the table has two words and a slot for each block, the seat is a producer's with no slot out, and `sent` counts the blocks put
pub record IsProducer (p : Producer) : Type 0 where
  pub words : (arc_value p.table).shared.table_id.words ≡ 2
  pub slots : (arc_value p.table).shared.table_id.slots ≡ p.capacity
  pub some_slots : 0 < p.capacity
  pub few_slots : p.capacity ≤ 64
  pub key : (arc_value p.table).shared.key ≡ p.seat.me.0.size
  pub seat : p.seat.table_id ≡ (arc_value p.table).shared.table_id
  pub none_out : p.seat.me.1 ≡ []
  pub produces : p.seat.me.0.is_producer ≡ true
  pub alone : p.seat.me.0.is_consumer ≡ false
  pub holds : p.seat.me.0.producer.holds ≡ false
  pub sent : p.sent ≡ length p.seat.me.0.producer.put
  pub few : p.sent ≤ 2 ^ 62

-- the same of a consumer, and `taken` counts the blocks got
pub record IsConsumer (c : Consumer) : Type 0 where
  pub words : (arc_value c.table).shared.table_id.words ≡ 2
  pub slots : (arc_value c.table).shared.table_id.slots ≡ c.capacity
  pub some_slots : 0 < c.capacity
  pub few_slots : c.capacity ≤ 64
  pub key : (arc_value c.table).shared.key ≡ c.seat.me.0.size
  pub seat : c.seat.table_id ≡ (arc_value c.table).shared.table_id
  pub none_out : c.seat.me.1 ≡ []
  pub consumes : c.seat.me.0.is_consumer ≡ true
  pub alone : c.seat.me.0.is_producer ≡ false
  pub next : c.seat.me.0.consumer.next ≡ []
  pub taken : c.taken ≡ length c.seat.me.0.consumer.got
  pub few : items_of c.seat.me.0.consumer.got ≤ c.seat.me.0.size.most
