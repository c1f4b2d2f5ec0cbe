-- The ports of an instance, one for each of its streams.
use Rattle.std.proofs.Common.{◌≡◌, ℕ, ◌<◌, length, ap, arith}
use Rattle.tapa_syntax.specs.declared.program.Program.{Program}
use Rattle.net_core.specs.declared.ports.Ports.{Ports}
use Rattle.net_core.specs.Ports.{ends_of, port_count}
use Rattle.net_core.specs.Bindings.{IsConnected, arity, arity_in, ends_at}
use Rattle.net_core.proofs.Moves.{port_count_is}
use Rattle.tapa_base.proofs.Got.{some_at as has_item}

pub ports_many : (program : Program) → IsConnected program → (i : ℕ) → i < length program.instances.items → (ports : Ports) → ends_of ports ≡ ends_at program i → port_count ports ≡ arity program i
ports_many program connected i inside ports ends =
    let b = has_item program.instances.items i inside in
    let many = (connected.built i b.0 b.1).as_many in
    let arity_is : arity program i ≡ length b.0.streams.items = ap arity_in b.1 in
    let len = ap length ends in
    let count = port_count_is ports in
    omega arith

pub port_there : (program : Program) → IsConnected program → (i : ℕ) → i < length program.instances.items → (ports : Ports) → ends_of ports ≡ ends_at program i → (p : ℕ) → p < arity program i → p < port_count ports
port_there program connected i inside ports ends p l = let m = ports_many program connected i inside ports ends in omega arith
