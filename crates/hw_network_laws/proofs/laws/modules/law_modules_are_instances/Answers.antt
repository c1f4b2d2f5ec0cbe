use Rattle.hw_network_laws.proofs.modules.Tasks.{instance_is}
use Rattle.hw_network_laws.proofs.laws.modules.law_modules_are_instances.Goals as goal

pub returns : goal.returns
returns c = λ program w scalars memories i x leaf machine at body low run cells S runs begins wired. instance_is program w scalars memories i x leaf machine at body low run cells begins S runs wired
