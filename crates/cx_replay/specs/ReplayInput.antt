-- What is read of an input.
use Rattle.cx_base.specs.declared.cluster.Cluster.{Cluster}
use Rattle.cx_script.specs.Lines.{ParsedLines}

-- the header hasn't ended yet; it says no cluster; or it says this one, and the lines after it spell these events
pub data ReplayInput : Type 0 where
  Nothing : ReplayInput
  BadHeader : ReplayInput
  Lines : Cluster → ParsedLines → ReplayInput
