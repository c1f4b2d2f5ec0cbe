pub mod Circuit
