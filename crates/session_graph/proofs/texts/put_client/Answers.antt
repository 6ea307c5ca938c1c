use Rattle.std.proofs.Common.{rules}
use Rattle.std.specs.Prelude.{string_bytes}
use Rattle.port_registry.specs.Registered.{open_client}
use Rattle.session_graph.proofs.TextLemmas.{client-put}
use Rattle.session_graph.proofs.texts.put_client.Goals as goal

pub returns : goal.returns
returns c = client-put c.end_line.result (string_bytes c.args.text.now) (string_bytes c.push_str.new.self) (string_bytes c.put_word.new.text) (string_bytes c.put_shown.new.text) (string_bytes c.put_word-2.new.text) (string_bytes c.end_line.new.text) (open_client c.args.client.now)
    (search (rules)) (search (rules)) (search (rules)) (search (rules)) c.end_line.ensures
