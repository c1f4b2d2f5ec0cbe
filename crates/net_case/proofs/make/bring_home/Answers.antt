use Rattle.std.proofs.Common.{◌≡◌, ℕ, ◌+◌, ◌-◌, ◌<◌, [], ◌∷◌, length, Some, refl, sym, ap, ◌∙◌, subst, arith, length-append}
use Rattle.std.specs.Prelude.{slice_set}
use Rattle.std.proofs.lemmas.List.{append-nil, length-set}
use Rattle.net_case.specs.declared.batch.Process.{Process}
use Rattle.net_case.specs.Make.{AreBroughtHome}
use Rattle.net_case.proofs.Loops.{last_of, last_at, brought_none, brought_more}
use Rattle.net_case.proofs.make.bring_home.Goals as goal

pub loop-k-init : goal.loop-k-init
loop-k-init g c =
    let r = c.requires in
    let lb = r.bodies_len in
    let lp = r.ports_len in
    let ll = r.limits_len in
    let bo = c.args.bodies.now.ok in
    let bs = c.args.bodies.now.small in
    let po = c.args.ports.now.ok in
    let ps = c.args.ports.now.small in
    record {
      len = refl;
      limits_rest = ([], sym (append-nil c.args.limits.now.items));
      limits_len = omega arith;
      bodies_rest = ([], sym (append-nil c.args.bodies.now.items));
      bodies_len = omega arith;
      ports_rest = ([], sym (append-nil c.args.ports.now.items));
      ports_len = omega arith;
      brought = brought_none (length c.args.homes.now.items - 0) c.args.limits.now.items c.args.bodies.now.items c.args.ports.now.items c.args.homes.now.items (omega arith);
      body_room = omega arith;
      port_room = omega arith;
    }

pub loop-k-preserved : goal.loop-k-preserved
loop-k-preserved g c =
    let inv = c.loop-k.invariant in
    let k = c.loop-k.k in
    let n = length c.args.homes.now.items in
    let m = c.len-n.result - 1 - k in
    let x : Process g.row.B.Denot = record { body = c.take_last.result; ports = c.take_last-in-loop-k.result; limits = c.take_last-in-loop-k-2.result; last = 18446744073709551615 } in
    let bodies = c.args.bodies.now.items in
    let ports = c.args.ports.now.items in
    let limits = c.args.limits.now.items in
    let homes = c.loop-k.homes.items in
    let inside = c.loop-k-test.true in
    let end = c.len-n.ensures in
    let ok = c.args.homes.now.ok in
    let len = inv.len in
    let lb = inv.bodies_len in
    let lp = inv.ports_len in
    let ll = inv.limits_len in
    let tb = c.take_last.ensures.items in
    let tp = c.take_last-in-loop-k.ensures.items in
    let tl = c.take_last-in-loop-k-2.ensures.items in
    let ab = ap length tb ∙ length-append c.take_last.new.self.items (c.take_last.result ∷ []) in
    let a_p = ap length tp ∙ length-append c.take_last-in-loop-k.new.self.items (c.take_last-in-loop-k.result ∷ []) in
    let al = ap length tl ∙ length-append c.take_last-in-loop-k-2.new.self.items (c.take_last-in-loop-k-2.result ∷ []) in
    let eb = last_of bodies c.loop-k.bodies.items c.take_last.new.self.items inv.bodies_rest.0 c.take_last.result inv.bodies_rest.1 tb in
    let ep = last_of ports c.loop-k.ports.items c.take_last-in-loop-k.new.self.items inv.ports_rest.0 c.take_last-in-loop-k.result inv.ports_rest.1 tp in
    let el = last_of limits c.loop-k.limits.items c.take_last-in-loop-k-2.new.self.items inv.limits_rest.0 c.take_last-in-loop-k-2.result inv.limits_rest.1 tl in
    let many : c.len-n.result ≡ n = omega arith in
    let mb : length c.take_last.new.self.items ≡ m = omega arith in
    let mp : length c.take_last-in-loop-k.new.self.items ≡ m = omega arith in
    let ml : length c.take_last-in-loop-k-2.new.self.items ≡ m = omega arith in
    let at_body = last_at bodies c.take_last.new.self.items inv.bodies_rest.0 c.take_last.result m eb mb in
    let at_port = last_at ports c.take_last-in-loop-k.new.self.items inv.ports_rest.0 c.take_last-in-loop-k.result m ep mp in
    let at_limit = last_at limits c.take_last-in-loop-k-2.new.self.items inv.limits_rest.0 c.take_last-in-loop-k-2.result m el ml in
    let past : n - k ≡ m + 1 = omega arith in
    let next : m ≡ n - (k + 1) = omega arith in
    let here : m < length homes = omega arith in
    let cb = c.take_last.ensures.capacity in
    let cp = c.take_last-in-loop-k.ensures.capacity in
    let rb = inv.body_room in
    let rp = inv.port_room in
    record {
      len = length-set homes m (Some x) ∙ inv.len;
      limits_rest = (c.take_last-in-loop-k-2.result ∷ inv.limits_rest.0, el);
      limits_len = omega arith;
      bodies_rest = (c.take_last.result ∷ inv.bodies_rest.0, eb);
      bodies_len = omega arith;
      ports_rest = (c.take_last-in-loop-k.result ∷ inv.ports_rest.0, ep);
      ports_len = omega arith;
      brought = subst (λ (j : ℕ). AreBroughtHome j limits bodies ports (slice_set homes m (Some x))) next
          (brought_more m limits bodies ports homes x here (subst (λ (j : ℕ). AreBroughtHome j limits bodies ports homes) past inv.brought) at_body at_port at_limit);
      body_room = omega arith;
      port_room = omega arith;
    }
