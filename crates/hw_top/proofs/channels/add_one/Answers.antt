use Rattle.std.proofs.Common.{◌≡◌, sym, ap, ◌∙◌}
use Rattle.std.specs.Prelude.{is_some}
use Rattle.vlog_tree.specs.Table.{Name}
use Rattle.vlog_scope.specs.NameTable.{place_in}
use Rattle.hw_top.proofs.Named.{known_stays, unknown_grows, named_too}
use Rattle.hw_top.proofs.channels.add_one.Goals as goal

pub returns-then-known : goal.returns-then-known
returns-then-known c =
    let places = c.args.places.now in
    let name = c.bytes-name.ensures.value ∙ c.name.ensures in
    let known : c.is_some-known.result ≡ is_some (place_in places c.args.one.name) = c.is_some-known.ensures ∙ ap (λ o. is_some o) c.find_name.ensures ∙ ap (λ (n : Name). is_some (place_in places n)) name in
    record { modules = known_stays c.args.modules.now.items c.args.one (sym (c.requires c.args.one.name) ∙ sym known ∙ c.if-known.true); places = c.requires }

pub returns : goal.returns
returns c =
    let places = c.args.places.now in
    let ms = c.args.modules.now.items in
    let name = c.bytes-name.ensures.value ∙ c.name.ensures in
    let known : c.is_some-known.result ≡ is_some (place_in places c.args.one.name) = c.is_some-known.ensures ∙ ap (λ o. is_some o) c.find_name.ensures ∙ ap (λ (n : Name). is_some (place_in places n)) name in
    record {
      modules = unknown_grows ms c.push.new.self.items c.args.one c.in_ok-push.ensures.items (sym (c.requires c.args.one.name) ∙ sym known ∙ c.if-known.false);
      places =
          named_too (place_in places) (place_in c.add_before.new.table) ms c.push.new.self.items c.args.one c.bytes-name.result.now c.len.result name c.in_ok-push.ensures.items c.requires c.in_ok-add_before.ensures;
    }
