-- Lists to which parts are put one by one are those with all of them behind.
use Rattle.std.proofs.Common.{◌≡◌, List, [], ◌∷◌, ◌++◌, fold, map, sym, ap, ◌∙◌, append_assoc}
use Rattle.std.proofs.lemmas.List.{append-nil}
use Rattle.vlog_tree.specs.declared.tree.Atom.{Atom}
use Rattle.vlog_tree.specs.declared.tree.Step.{Step}
use Rattle.vlog_tree.specs.declared.tree.Connection.{Connection}
use Rattle.vlog_tree.specs.declared.tree.Item.{Item}
use Rattle.vlog_tree.specs.declared.tree.Item.TheVariants.{Instance}
use Rattle.vlog_tree.specs.declared.tree.PortDecl.{PortDecl}
use Rattle.vlog_tree.specs.Form.{ModuleTree}
use Rattle.vlog_tree.specs.Spelling.{Word}
use Rattle.vlog_tree.specs.Clamped.{clamped_atom, clamped_step, clamped_item, clamped_port, clamped}
use Rattle.vlog_read.specs.declared.state.ModuleDraft.{ModuleDraft}
use Rattle.vlog_read.specs.declared.state.Joining.{Joining}
use Rattle.vlog_read.specs.ValueReading.{begun, finished, with_connection, joined}
use Rattle.vlog_read.specs.BlockReading.{no_connection}
use Rattle.vlog_read.specs.Finishing.{put_module, put_port, put_item, put_step, put_atom}

folded_modules : (ms more : List ModuleTree) → fold put_module ms more ≡ ms ++ map clamped more
folded_modules ms [] = sym (append-nil ms)
folded_modules ms (m ∷ more) = folded_modules (ms ++ clamped m ∷ []) more ∙ append_assoc ms (clamped m ∷ []) (map clamped more)

pub all_modules : (ms : List ModuleTree) → fold put_module [] ms ≡ map clamped ms
all_modules ms = folded_modules [] ms

folded_steps : (xs more : List Step) → fold put_step xs more ≡ xs ++ map clamped_step more
folded_steps xs [] = sym (append-nil xs)
folded_steps xs (x ∷ more) = folded_steps (xs ++ clamped_step x ∷ []) more ∙ append_assoc xs (clamped_step x ∷ []) (map clamped_step more)

pub all_steps : (xs : List Step) → fold put_step [] xs ≡ map clamped_step xs
all_steps xs = folded_steps [] xs

folded_atoms : (xs more : List Atom) → fold put_atom xs more ≡ xs ++ map clamped_atom more
folded_atoms xs [] = sym (append-nil xs)
folded_atoms xs (a ∷ more) = folded_atoms (xs ++ clamped_atom a ∷ []) more ∙ append_assoc xs (clamped_atom a ∷ []) (map clamped_atom more)

pub all_atoms : (xs : List Atom) → fold put_atom [] xs ≡ map clamped_atom xs
all_atoms xs = folded_atoms [] xs

with_connections : Joining → List Connection → Joining
with_connections q more = record { child = q.child; name = q.name; connections = q.connections ++ more }

folded_connections : (q : Joining) (more : List Connection) → fold with_connection q more ≡ with_connections q more
unfolding with_connections
folded_connections q [] = λ i. record { child = q.child; name = q.name; connections = sym (append-nil q.connections) i }
folded_connections q (l ∷ more) = folded_connections (with_connection q l) more ∙ (λ i. record { child = q.child; name = q.name; connections = append_assoc q.connections (l ∷ []) more i })

pub all_connections : (m x : Word) (ls : List Connection) → joined (fold with_connection (no_connection m x) ls) ≡ Instance m x ls
unfolding with_connections
all_connections m x ls = ap joined (folded_connections (no_connection m x) ls)

with_ports : ModuleDraft → List PortDecl → ModuleDraft
with_ports d more = record { modules = d.modules; name = d.name; ports = d.ports ++ more; items = d.items }

with_items : ModuleDraft → List Item → ModuleDraft
with_items d more = record { modules = d.modules; name = d.name; ports = d.ports; items = d.items ++ more }

folded_ports : (d : ModuleDraft) (more : List PortDecl) → fold put_port d more ≡ with_ports d (map clamped_port more)
unfolding with_ports
folded_ports d [] = λ i. record { modules = d.modules; name = d.name; ports = sym (append-nil d.ports) i; items = d.items }
folded_ports d (p ∷ more) = folded_ports (put_port d p) more ∙ (λ i. record { modules = d.modules; name = d.name; ports = append_assoc d.ports (clamped_port p ∷ []) (map clamped_port more) i; items = d.items })

folded_items : (d : ModuleDraft) (more : List Item) → fold put_item d more ≡ with_items d (map clamped_item more)
unfolding with_items
folded_items d [] = λ i. record { modules = d.modules; name = d.name; ports = d.ports; items = sym (append-nil d.items) i }
folded_items d (x ∷ more) = folded_items (put_item d x) more ∙ (λ i. record { modules = d.modules; name = d.name; ports = d.ports; items = append_assoc d.items (clamped_item x ∷ []) (map clamped_item more) i })

-- a module whose ports and items are put one by one
pub whole_module : (ms : List ModuleTree) (m : ModuleTree) → finished (fold put_item (fold put_port (begun ms m.name) m.ports) m.items) ≡ put_module ms m
unfolding with_ports with_items
whole_module ms m = ap (λ (d : ModuleDraft). finished (fold put_item d m.items)) (folded_ports (begun ms m.name) m.ports) ∙ ap finished (folded_items (with_ports (begun ms m.name) (map clamped_port m.ports)) m.items)
